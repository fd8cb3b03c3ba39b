-- Rules on acts of one action, by the ticks at which the action is free again.
use Rattle.std.specs.Prelude.{◌≡◌, ℕ, ◌+◌, ◌^◌, ◌<◌, Bool, true, false, not, ◌&&◌, ◌||◌, ◌==◌, nat_le, nat_lt, List, length, get_or, IsTrue}
use Rattle.std.specs.List.{list_all}
use Rattle.tp_spec.specs.declared.plan.Timed.{Timed}
use Rattle.plan_validator.specs.declared.acts.Rule.{Rule}
use Rattle.plan_validator.specs.declared.acts.Rule.TheVariants.{StartsApart, InTurn}

-- from when on an act lets its action start again, under a rule
abbrev pub reach : Rule → Timed → ℕ
reach StartsApart x = x.start + 1
reach InTurn x = x.start + x.length

-- whether an act lets an action start at a tick
abbrev pub lets : Rule → ℕ → ℕ → Timed → Bool
lets rule action t x = not (x.action == action) || nat_le (reach rule x) t

-- whether a later act keeps a rule with an earlier one
abbrev pub keeps : Rule → Timed → Timed → Bool
keeps rule x y = lets rule y.action y.start x

-- a tick for each action: from then on all these acts let it start
abbrev pub AreFree : Rule → List Timed → List ℕ → Type 0
AreFree rule acts free =
    (a t : ℕ) → a < length free → list_all (lets rule a t) acts ≡ nat_le (get_or free a 0) t

-- starts and lengths that keep sums within 64 bits
abbrev pub is_small : Timed → Bool
is_small x = nat_lt x.start (2 ^ 63) && nat_lt x.length (2 ^ 63)

-- whether the action of an act is one of so many
abbrev pub is_of : ℕ → Timed → Bool
is_of count x = nat_lt x.action count
