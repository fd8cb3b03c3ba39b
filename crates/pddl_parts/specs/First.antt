-- The first of some faults: the least place, and at one place the order of the kinds.
use Rattle.std.specs.Prelude.{◌≡◌, ℕ, ◌&&◌, ◌||◌, ◌⊎◌, Bool, false, nat_lt, nat_eq, if◌then◌else◌, List, [], ◌∷◌, Option, Some, None}
use Rattle.pddl_parts.specs.declared.faults.Fault.{Fault}
use Rattle.pddl_parts.specs.declared.faults.Kind.{Kind}
use Rattle.pddl_parts.specs.declared.faults.Kind.TheVariants.{Shape, LeftOut, Unknown, Arity, Twice, Cycle, NotWhole, TooLarge, ClashingTimed, OtherDomain}

-- the place of a kind in the order in which kinds count at one byte
abbrev pub rank : Kind → ℕ
rank Shape = 0
rank LeftOut = 1
rank Unknown = 2
rank Arity = 3
rank Twice = 4
rank Cycle = 5
rank NotWhole = 6
rank TooLarge = 7
rank ClashingTimed = 8
rank OtherDomain = 9

-- a fault at a lower byte, or of an earlier kind at the same byte
abbrev pub goes_before : Fault → Fault → Bool
goes_before a b = nat_lt a.at b.at || (nat_eq a.at b.at && nat_lt (rank a.kind) (rank b.kind))

-- the first of two faults, each of which may be missing
abbrev pub earlier : Option Fault → Option Fault → Option Fault
earlier None y = y
earlier (Some a) None = Some a
earlier (Some a) (Some b) = if goes_before b a then Some b else Some a

-- the first of these faults, in whichever order they are listed
abbrev pub first : List Fault → Option Fault
first [] = None
first (f ∷ fs) = earlier (Some f) (first fs)

-- a fault of a kind at a byte
abbrev pub fault : Kind → ℕ → Fault
fault kind at = record { at = at; kind = kind }

-- a fault among some
abbrev pub IsIn : Fault → List Fault → Type 0
IsIn f [] = ⊥
IsIn f (g ∷ fs) = (f ≡ g) ⊎ IsIn f fs

-- a fault of these that no other one goes before
pub record IsLeast (f : Fault) (fs : List Fault) : Type 0 where
  pub listed : IsIn f fs
  pub least : (g : Fault) → IsIn g fs → goes_before g f ≡ false
