-- Folds of expressions at their leaves and sums: an expression does not compute by itself.
use Rattle.std.proofs.Common.{◌≡◌, ap, sym, ◌∙◌, ℤ}
use Rattle.pddl_meaning.specs.declared.terms.Atom.{Atom}
use Rattle.pddl_meaning.specs.declared.values.Value.{Value, fold-Value}
use Rattle.pddl_meaning.specs.declared.values.Value.TheVariants.{Number, Call, Sum, Difference, rolls-Number, rolls-Call, rolls-Sum, rolls-Difference}
use Rattle.pddl_meaning.specs.declared.values.Value.TheFolds.{fold-roll-Value}
use Rattle.pddl_meaning.specs.declared.values.Value.TheOpen.{Value-F}

pub fold_number : {A : Type 0} (layer : Value-F A → A) (n : ℤ) → fold-Value A layer (Number n) ≡ layer (Value-F.Number n)
fold_number {A} layer n = ap (fold-Value A layer) (sym (rolls-Number n)) ∙ fold-roll-Value A layer (Value-F.Number n)

pub fold_call : {A : Type 0} (layer : Value-F A → A) (a : Atom) → fold-Value A layer (Call a) ≡ layer (Value-F.Call a)
fold_call {A} layer a = ap (fold-Value A layer) (sym (rolls-Call a)) ∙ fold-roll-Value A layer (Value-F.Call a)

pub fold_sum : {A : Type 0} (layer : Value-F A → A) (a b : Value) → fold-Value A layer (Sum a b) ≡ layer (Value-F.Sum (fold-Value A layer a) (fold-Value A layer b))
fold_sum {A} layer a b = ap (fold-Value A layer) (sym (rolls-Sum a b)) ∙ fold-roll-Value A layer (Value-F.Sum a b)

pub fold_difference : {A : Type 0} (layer : Value-F A → A) (a b : Value) → fold-Value A layer (Difference a b) ≡ layer (Value-F.Difference (fold-Value A layer a) (fold-Value A layer b))
fold_difference {A} layer a b = ap (fold-Value A layer) (sym (rolls-Difference a b)) ∙ fold-roll-Value A layer (Value-F.Difference a b)
