-- The contents of files by name, where they are known at all.
use Rattle.std.specs.Prelude.{◌≡◌, ◌≢◌, ℕ, Bool, List, Option, Some, None, ⊤, find, string_bytes, Vec, String, ◌==◌}
use Rattle.std.specs.List.{list_any}
use Rattle.std.specs.Option.{option_map}
use Rattle.std.specs.Str.{bytes_eq}
use Rattle.tp_world.specs.Requests.{Request}

-- the contents of files by name, where they are known
abbrev pub Contents : Type 0
Contents = Option (List ℕ → Option (List ℕ))

-- Files as clauses see them: their contents, how often a load and how often a save failed, each up
-- to the greatest `u64`, and what they were asked for, in order.
pub record FilesView : Type 0 where
  pub contents : Contents
  pub load_faults : ℕ
  pub save_faults : ℕ
  pub requests : List Request

-- known contents stay known, and every name but this one has what it had
abbrev pub KeepsOthers : Contents → Contents → List ℕ → Type 0
KeepsOthers None new name = ⊤
KeepsOthers (Some before) None name = ⊥
KeepsOthers (Some before) (Some now) name =
    (other : List ℕ) → other ≢ name → now other ≡ before other

-- known contents stay known, this name has these bytes, and every other name has what it had
abbrev pub Stores : Contents → Contents → List ℕ → List ℕ → Type 0
Stores None new name bytes = ⊤
Stores (Some before) None name bytes = ⊥
Stores (Some before) (Some now) name bytes =
    (now name ≡ Some bytes) × ((other : List ℕ) → other ≢ name → now other ≡ before other)

-- the bytes of the first file of this name
abbrev pub content_of : List (List ℕ × List ℕ) → List ℕ → Option (List ℕ)
content_of files name = option_map (λ file. file.1) (find (λ file. bytes_eq file.0 name) files)

-- the name of an entry and its bytes
abbrev pub file_of : {Y Z : Type 0} → String Y × Vec ℕ Z → List ℕ × List ℕ
file_of entry = (string_bytes entry.0, entry.1.items)

-- files in memory: each name with its bytes, the numbers of the calls that fail, how many calls
-- there were, how many loads and how many saves failed, and what was asked for
pub record FilesState : Type 0 where
  pub files : List (List ℕ × List ℕ)
  pub failing : List ℕ
  pub calls : ℕ
  pub load_faults : ℕ
  pub save_faults : ℕ
  pub requests : List Request

-- the next call is one of those that fail
abbrev pub fails_next : FilesState → Bool
fails_next f = list_any (λ number. number == f.calls) f.failing
