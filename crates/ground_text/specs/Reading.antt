-- What a text that may be a ground text would be the text of. Every reader here gives something for
-- every text: it takes what stands where a part would stand, and says nothing of whether the text
-- is a ground text.
use Rattle.std.specs.Prelude.{ℕ, zero, suc, ◌+◌, ◌-◌, ◌*◌, ◌^◌, ℤ, pos, negsuc, neg_ℤ, Bool, true, false, not, ◌&&◌, ◌==◌, nat_lt, nat_le, min, List, [], ◌∷◌, length, take, drop, Option, Some, None, if◌then◌else◌}
use Rattle.std.specs.List.{filter, flat_map}
use Rattle.tp_spec.specs.WellFormed.{Ground}
use Rattle.tp_spec.specs.declared.expr.Expr.{Expr, roll-Expr}
use Rattle.tp_spec.specs.declared.expr.Expr.TheOpen.{Expr-F}
use Rattle.tp_spec.specs.declared.problem.Action.{Action}
use Rattle.tp_spec.specs.declared.problem.Cond.{Cond}
use Rattle.tp_spec.specs.declared.problem.Cond.TheVariants.{Lit, Compare}
use Rattle.tp_spec.specs.declared.problem.Effect.{Effect}
use Rattle.tp_spec.specs.declared.problem.Effect.TheVariants.{Add, Delete, Change}
use Rattle.tp_spec.specs.declared.problem.How.{How}
use Rattle.tp_spec.specs.declared.problem.How.TheVariants.{Increase, Decrease, Assign}
use Rattle.tp_spec.specs.declared.problem.Kind.TheVariants.{Instant, Durative}
use Rattle.tp_spec.specs.declared.problem.Op.{Op}
use Rattle.tp_spec.specs.declared.problem.Op.TheVariants.{Less, LessEq, Equal, MoreEq, More}
use Rattle.tp_spec.specs.declared.problem.TimedItem.{TimedItem}

abbrev pub is_digit : ℕ → Bool
is_digit c = nat_le 48 c && nat_le c 57

-- a number that stays within 64 bits
abbrev pub within : ℕ → ℕ
within n = min n (2 ^ 64 - 1)

-- the number that the digits in front write behind those of n, and what stands behind them
abbrev pub number_from : ℕ → List ℕ → ℕ × List ℕ
number_from n [] = (n, [])
number_from n (c ∷ rest) =
    if is_digit c then number_from (within (within (n * 10) + (c - 48))) rest else (n, c ∷ rest)

unfoldable pub number_at : List ℕ → ℕ × List ℕ
number_at bytes = number_from 0 bytes

abbrev pub narrow : ℕ → ℕ
narrow n = min n (2 ^ 32 - 1)

-- a number of a fact, a fluent or a scale
unfoldable pub index_at : List ℕ → ℕ × List ℕ
index_at bytes = (narrow (number_at bytes).0, (number_at bytes).1)

abbrev pub signed_of : Bool → ℕ → ℤ
signed_of minus n =
    if nat_lt n (2 ^ 63) then (if minus then neg_ℤ (pos n) else pos n) else negsuc (2 ^ 63 - 1)

-- a number with a minus before it, or without
unfoldable pub integer_at : List ℕ → ℤ × List ℕ
integer_at [] = (pos 0, [])
integer_at (c ∷ rest) =
    if c == 45 then (signed_of true (number_at rest).0, (number_at rest).1)
    else (signed_of false (number_at (c ∷ rest)).0, (number_at (c ∷ rest)).1)

-- how many bytes stand before the next line feed, or before the end
abbrev pub line_len : List ℕ → ℕ
line_len [] = 0
line_len (c ∷ rest) = if c == 10 then 0 else 1 + line_len rest

abbrev pub is_ascii_byte : ℕ → Bool
is_ascii_byte c = nat_lt c 128

-- the next line as a name, without bytes beyond ASCII
unfoldable pub name_at : List ℕ → List ℕ × List ℕ
name_at bytes =
    (filter is_ascii_byte (take (line_len bytes) bytes), drop (line_len bytes + 1) bytes)

abbrev pub first_is : ℕ → List ℕ → Bool
first_is c [] = false
first_is c (d ∷ rest) = d == c

-- members, while a space stands before one, at most so many
abbrev pub members_at : {A : Type 0} → (List ℕ → A × List ℕ) → ℕ → List ℕ → List A × List ℕ
members_at at zero bytes = ([], bytes)
members_at at (suc k) bytes =
    if first_is 32 bytes then (
      (at (drop 1 bytes)).0
          ∷ (members_at at k (at (drop 1 bytes)).1).0,
      (members_at at k (at (drop 1 bytes)).1).1,
    )
    else ([], bytes)

-- so many, one behind the other
abbrev pub repeated_at : {A : Type 0} → (List ℕ → A × List ℕ) → ℕ → List ℕ → List A × List ℕ
repeated_at at zero bytes = ([], bytes)
repeated_at at (suc k) bytes =
    ((at bytes).0 ∷ (repeated_at at k (at bytes).1).0, (repeated_at at k (at bytes).1).1)

-- a count of at most so many, and as many behind its line
unfoldable pub counted_at : {A : Type 0} → (List ℕ → A × List ℕ) → ℕ → List ℕ → List A × List ℕ
counted_at at most bytes =
    repeated_at at (min (number_at bytes).0 most) (drop 1 (number_at bytes).1)

abbrev pub number_expr : ℤ × List ℕ → Expr × List ℕ
number_expr n = (roll-Expr (Expr-F.Number n.0), n.1)

abbrev pub fluent_expr : ℕ × List ℕ → Expr × List ℕ
fluent_expr n = (roll-Expr (Expr-F.Fluent n.0), n.1)

abbrev pub both_expr : Bool → Expr → Expr → Expr
both_expr true a b = roll-Expr (Expr-F.Sum a b)
both_expr false a b = roll-Expr (Expr-F.Difference a b)

-- an expression that is less than so many operations deep
abbrev pub expr_at : ℕ → List ℕ → Expr × List ℕ
expr_at zero bytes = number_expr (pos 0, bytes)
expr_at (suc k) bytes =
    if first_is 40 bytes then (
      both_expr (first_is 43 (drop 1 bytes)) (expr_at k (drop 3 bytes)).0
          (expr_at k (drop 1 (expr_at k (drop 3 bytes)).1)).0,
      drop 1 (expr_at k (drop 1 (expr_at k (drop 3 bytes)).1)).1,
    )
    else if first_is 110 bytes then fluent_expr (index_at (drop 1 bytes))
    else number_expr (integer_at bytes)

unfoldable pub whole_expr_at : List ℕ → Expr × List ℕ
whole_expr_at bytes = expr_at 33 bytes

unfoldable pub op_at : List ℕ → Op × List ℕ
op_at bytes =
    if first_is 60 bytes
    then (if first_is 61 (drop 1 bytes) then (LessEq, drop 2 bytes) else (Less, drop 1 bytes))
    else if first_is 62 bytes
    then (if first_is 61 (drop 1 bytes) then (MoreEq, drop 2 bytes) else (More, drop 1 bytes))
    else (Equal, drop 1 bytes)

abbrev pub compared_at : Op × List ℕ → Cond × List ℕ
compared_at op =
    let left = whole_expr_at (drop 1 op.1) in
    let right = whole_expr_at (drop 1 left.1) in
    (Compare op.0 left.0 right.0, drop 1 right.1)

unfoldable pub cond_at : List ℕ → Cond × List ℕ
cond_at bytes =
    if first_is 40 bytes then compared_at (op_at (drop 1 bytes))
    else (Lit (index_at (drop 1 bytes)).0 (first_is 43 bytes), (index_at (drop 1 bytes)).1)

abbrev pub how_of : List ℕ → How
how_of bytes =
    if first_is 105 bytes then Increase else if first_is 100 bytes then Decrease else Assign

abbrev pub changed_at : How → ℕ × List ℕ → Effect × List ℕ
changed_at how fluent = (
  Change how fluent.0 (whole_expr_at (drop 1 fluent.1)).0,
  drop 1
      (whole_expr_at (drop 1 fluent.1)).1,
)

unfoldable pub effect_at : List ℕ → Effect × List ℕ
effect_at bytes =
    if first_is 40 bytes then changed_at (how_of (drop 1 bytes)) (index_at (drop 5 bytes))
    else if first_is 43 bytes then (Add (index_at (drop 1 bytes)).0, (index_at (drop 1 bytes)).1)
    else (Delete (index_at (drop 1 bytes)).0, (index_at (drop 1 bytes)).1)

unfoldable pub conds_at : List ℕ → List Cond × List ℕ
conds_at bytes = members_at cond_at (length bytes) bytes

unfoldable pub effects_at : List ℕ → List Effect × List ℕ
effects_at bytes = members_at effect_at (length bytes) bytes

unfoldable pub indices_at : List ℕ → List ℕ × List ℕ
indices_at bytes = members_at index_at (length bytes) bytes

abbrev pub begins_with_digit : List ℕ → Bool
begins_with_digit [] = false
begins_with_digit (c ∷ rest) = is_digit c

unfoldable pub value_at : List ℕ → Option ℤ × List ℕ
value_at bytes =
    if first_is 45 bytes && not (begins_with_digit (drop 1 bytes)) then (None, drop 1 bytes)
    else (Some (integer_at bytes).0, (integer_at bytes).1)

unfoldable pub values_at : List ℕ → List (Option ℤ) × List ℕ
values_at bytes = members_at value_at (length bytes) bytes

unfoldable pub instant_at : List ℕ → List ℕ → Action × List ℕ
instant_at name bytes =
    let start_conds = conds_at (drop 10 bytes) in
    let start_effects = effects_at (drop 3 start_conds.1) in (
      record {
        name = name;
        kind = Instant;
        start_conds = start_conds.0;
        all_conds = [];
        end_conds =
            [];
        start_effects = start_effects.0;
        end_effects = [];
      },
      drop 1 start_effects.1,
    )

unfoldable pub durative_at : List ℕ → List ℕ → Action × List ℕ
durative_at name bytes =
    let least = number_at (drop 7 bytes) in
    let most = number_at (drop 1 least.1) in
    let start_conds = conds_at (drop 3 most.1) in
    let all_conds = conds_at (drop 3 start_conds.1) in
    let end_conds = conds_at (drop 3 all_conds.1) in
    let start_effects = effects_at (drop 3 end_conds.1) in
    let end_effects = effects_at (drop 3 start_effects.1) in (
      record {
        name = name;
        kind = Durative least.0 most.0;
        start_conds = start_conds.0;
        all_conds =
            all_conds.0;
        end_conds = end_conds.0;
        start_effects = start_effects.0;
        end_effects =
            end_effects.0;
      },
      drop 1 end_effects.1,
    )

unfoldable pub action_at : List ℕ → Action × List ℕ
action_at bytes =
    let name = name_at (drop 4 bytes) in
    if first_is 105 name.1 then instant_at name.0 name.1 else durative_at name.0 name.1

abbrev pub added : Effect → List ℕ
added (Add f) = f ∷ []
added (Delete f) = []
added (Change how x e) = []

abbrev pub deleted : Effect → List ℕ
deleted (Add f) = []
deleted (Delete f) = f ∷ []
deleted (Change how x e) = []

unfoldable pub timed_at : List ℕ → TimedItem × List ℕ
timed_at bytes =
    let tick = number_at (drop 3 bytes) in
    let literals = effects_at tick.1 in (
      record {
        tick = tick.0;
        adds = flat_map added literals.0;
        deletes = flat_map deleted literals.0;
      },
      drop 1 literals.1,
    )

unfoldable pub parts_at : List ℕ → Ground
parts_at bytes =
    let scale = index_at (drop 15 bytes) in
    let facts = counted_at name_at 4096 (drop 7 scale.1) in
    let fluents = counted_at name_at 256 (drop 8 facts.1) in
    let actions = counted_at action_at 4096 (drop 8 fluents.1) in
    let timed = counted_at timed_at 256 (drop 6 actions.1) in
    let init = indices_at (drop 4 timed.1) in
    let values = values_at (drop 7 init.1) in
    let goal = conds_at (drop 5 values.1) in
    record {
      scale = scale.0;
      facts = facts.0;
      fluents = fluents.0;
      actions = actions.0;
      timed =
          timed.0;
      init = init.0;
      values = values.0;
      goal = goal.0;
    }
