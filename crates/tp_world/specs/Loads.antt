-- Files that are to be loaded one after another: what they hold, and where the loads ended.
use Rattle.std.specs.Prelude.{◌≡◌, ◌<◌, ◌≤◌, ℕ, List, [], ◌∷◌, ◌++◌, length, map, Some, IfSome, IsSomeAnd}
use Rattle.tp_world.specs.Contents.{Contents, FilesView}
use Rattle.tp_world.specs.Counts.{Rose}
use Rattle.tp_world.specs.Requests.{Request, Load}

-- a file that is to be loaded: its role as printed lines name it, its name, and the most bytes of
-- it
pub record Wanted : Type 0 where
  pub role : List ℕ
  pub name : List ℕ
  pub most : ℕ

abbrev pub load_of : Wanted → Request
load_of file = Load file.name

-- a file holds these bytes, which are no more than it may have
pub record Holds (contents : Contents) (file : Wanted) (bytes : List ℕ) : Type 0 where
  pub content : IfSome contents (λ content. content file.name ≡ Some bytes)
  pub within : length bytes ≤ file.most

-- a file holds more bytes than it may have
abbrev pub HoldsTooMany : Contents → Wanted → Type 0
HoldsTooMany contents file =
    IfSome contents (λ content. IsSomeAnd (content file.name) (λ bytes. file.most < length bytes))

-- files hold these bytes, each its own
abbrev pub AllHold : Contents → List Wanted → List (List ℕ) → Type 0
AllHold contents [] [] = Unit {0}
AllHold contents [] (bytes ∷ more) = ⊥
AllHold contents (file ∷ rest) [] = ⊥
AllHold contents (file ∷ rest) (bytes ∷ more) =
    Holds contents file bytes × AllHold contents rest more

-- these files were asked for in their order, and nothing else
abbrev pub AsksFor : List Wanted → FilesView → FilesView → Type 0
AsksFor files before after = after.requests ≡ before.requests ++ map load_of files

-- all files were loaded in their order, with these bytes, and nothing else was asked for
pub record AreLoaded (files : List Wanted) (texts : List (List ℕ)) (before after : FilesView) :
    Type 0 where
  pub hold : AllHold before.contents files texts
  pub asked : AsksFor files before after
  pub unfailed : after.load_faults ≡ before.load_faults

-- The files were asked for in their order up to this one and with it; those before it were loaded.
pub record StopsAt (files : List Wanted) (file : Wanted) (before after : FilesView) : Type 0 where
  pub earlier : List Wanted
  pub later : List Wanted
  pub order : files ≡ earlier ++ file ∷ later
  pub texts : List (List ℕ)
  pub hold : AllHold before.contents earlier texts
  pub asked : AsksFor (earlier ++ file ∷ []) before after

-- this file is the first that is too long
pub record IsTooLongAt (files : List Wanted) (file : Wanted) (before after : FilesView) :
    Type 0 where
  pub stops : StopsAt files file before after
  pub long : HoldsTooMany before.contents file
  pub unfailed : after.load_faults ≡ before.load_faults

-- the load of this file is the first that failed
pub record FailsAt (files : List Wanted) (file : Wanted) (before after : FilesView) : Type 0 where
  pub stops : StopsAt files file before after
  pub failed : Rose before.load_faults after.load_faults

-- some files from the front were asked for in their order, none or all of them included
pub record AsksFront (files : List Wanted) (before after : FilesView) : Type 0 where
  pub front : List Wanted
  pub rest : List Wanted
  pub order : files ≡ front ++ rest
  pub asked : AsksFor front before after
