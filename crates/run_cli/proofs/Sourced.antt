-- An order with its source, or with the fault of it.
use Rattle.std.proofs.Common.{◌≡◌, ap, subst, sym, ℕ, List, Result, Ok, Err}
use Rattle.run_cli.specs.Orders.{Answers, with_source}
use Rattle.run_cli.specs.declared.words.Order.{Order}
use Rattle.run_cli.specs.declared.words.Source.{Source}
use Rattle.run_cli.specs.declared.words.WordFault.{WordFault}
use Rattle.run_cli.specs.declared.words.WordFault.TheVariants.{NoCommand, UnknownCommand, UnknownOption, Twice, NoValue, BadNumber, FileCount, ScaleOfGround, Missing, NoMemory}

module _ (order : Source → Result Order WordFault) (wanted : Result Source WordFault) where
  pub with_fault : (fault : WordFault) → Answers (Err fault) wanted → Answers (Err fault) (with_source order wanted)
  with_fault (NoCommand at) is = ap (with_source order) is
  with_fault (UnknownCommand at) is = ap (with_source order) is
  with_fault (UnknownOption at) is = ap (with_source order) is
  with_fault (Twice at) is = ap (with_source order) is
  with_fault (NoValue at) is = ap (with_source order) is
  with_fault (BadNumber at) is = ap (with_source order) is
  with_fault (FileCount at) is = ap (with_source order) is
  with_fault (ScaleOfGround at) is = ap (with_source order) is
  with_fault (Missing at) is = ap (with_source order) is
  with_fault NoMemory is = tt

  pub with_order : (source : Source) (result : Result Order WordFault) → wanted ≡ Ok source → Answers result (order source) → Answers result (with_source order wanted)
  with_order source result is answers = subst (λ (w : Result Source WordFault). Answers result (with_source order w)) (sym is) answers
