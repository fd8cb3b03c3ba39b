-- What fills in what is missing, as far as ticks fit in 64 bits.
use Rattle.std.specs.Prelude.{◌≡◌, string_bytes, ℕ, ◌^◌, Bool, true, false, ◌&&◌, nat_lt, List, [], ◌∷◌, Option, Some, None}
use Rattle.std.specs.List.{list_all}
use Rattle.std.specs.declared.string.String.{String}
use Rattle.tp_spec.specs.Lists.{each_next}
use Rattle.tp_spec.specs.WellFormed.{Ground, is_name, name_before}
use Rattle.tp_spec.specs.declared.list.Name.{Name}
use Rattle.tp_spec.specs.declared.problem.TimedItem.{TimedItem}
use Rattle.problem_rules.specs.declared.parts.Parts.{Parts}
use Rattle.ground_text.specs.Completion.{name_or_next, filled, filled_item, filled_timed, completed}

abbrev pub tick_fits : TimedItem → Bool
tick_fits t = nat_lt t.tick (2 ^ 64)

-- the tick that comes next, where none is one of 64 bits the first beyond them
abbrev pub tick_of : Option ℕ → ℕ
tick_of None = 2 ^ 64
tick_of (Some tick) = tick

-- a timed item, filled in where it is missing, or none where its tick does not fit
abbrev pub IsFilledItem : ℕ → TimedItem → Option TimedItem → Type 0
IsFilledItem next item None = tick_fits (filled_item next item) ≡ false
IsFilledItem next item (Some t) = t ≡ filled_item next item

-- timed items, the missing ones filled in, or none where a tick does not fit
abbrev pub AreFilledTimed : List TimedItem → Option (List TimedItem) → Type 0
AreFilledTimed items None = list_all tick_fits (filled_timed 0 items) ≡ false
AreFilledTimed items (Some ts) = (ts ≡ filled_timed 0 items) × (list_all tick_fits ts ≡ true)

-- parts as a problem whose missing names are filled in
abbrev pub filled_ground : Parts → Ground
filled_ground p =
    record {
      scale = p.scale;
      facts = filled [] p.facts;
      fluents = filled [] p.fluents;
      actions =
          p.actions;
      timed = p.timed;
      init = p.init;
      values = p.values;
      goal = p.goal;
    }

-- parts of the completion, or none where a tick of it does not fit
abbrev pub AreCompleted : Ground → Option Parts → Type 0
AreCompleted read None = list_all tick_fits (completed read).timed ≡ false
AreCompleted read (Some p) =
    (filled_ground p ≡ completed read) × (list_all tick_fits (completed read).timed ≡ true)

-- names that rise from one on
abbrev pub rise_from : List ℕ → List Name → Bool
rise_from before names = list_all is_name names && each_next name_before (before ∷ names)

-- a name, filled in behind the one before it, or none where it may not stand there
abbrev pub IsNextName : {Z : Type 0} → List ℕ → List ℕ → Option (String Z) → Type 0
IsNextName before name None =
    (is_name (name_or_next before name) && name_before before (name_or_next before name)) ≡ false
IsNextName before name (Some next) =
    (string_bytes next ≡ name_or_next before name) × (is_name (string_bytes next) ≡ true)
    × (name_before before (string_bytes next) ≡ true)
