-- What `parse` says of 1 to 13 digits.
use Rattle.std.proofs.Common.{◌≡◌, ◌∙◌, ℕ, ◌&&◌, nat_lt, IsTrue, true, List, length, Result, Ok, Err, sym, arith, rules}
use Rattle.std.specs.Char.{is_ascii_digit}
use Rattle.std.specs.List.{list_all}
use Rattle.std.specs.Str.Parse.{digits_value, ParsesUnsigned}
use Rattle.std.proofs.lemmas.Str.Parse.{IsNumeralModel, numerals_by_value, digits_value_short, parse_gives}
use Rattle.std.proofs.lemmas.Bool.{and_parts, ltb-true}
use Rattle.run_cli.specs.Options.{is_number}

own : IsNumeralModel (λ ds. IsTrue (list_all is_ascii_digit ds)) (digits_value 10)
own = numerals_by_value _ (search rules)

pub parses : {E : Type 0} → (bs : List ℕ) (r : Result ℕ E) → ParsesUnsigned 64 10 bs r → is_number bs ≡ true → r ≡ Ok (digits_value 10 bs)
parses bs r h number =
    let a = and_parts (nat_lt 0 (length bs) && nat_lt (length bs) 14) (list_all is_ascii_digit bs) number in
    let b = and_parts (nat_lt 0 (length bs)) (nat_lt (length bs) 14) a.0 in
    let some = ltb-true 0 (length bs) b.0 in
    let few = ltb-true (length bs) 14 b.1 in
    let digits : IsTrue (list_all is_ascii_digit bs) = search (rules, a.1) in
    parse_gives own 64 bs r h digits some (omega (arith, digits_value_short own bs 13 digits (omega (arith, few))))

pub not_refused : {E : Type 0} → (bs : List ℕ) (r : Result ℕ E) (e : E) → ParsesUnsigned 64 10 bs r → is_number bs ≡ true → r ≡ Err e → ⊥
not_refused bs r e h number refused = refuses (sym refused ∙ parses bs r h number) where
  refuses : {E : Type 0} {e : E} {n : ℕ} → ◌≡◌ {A = Result ℕ E} (Err e) (Ok n) → ⊥
  refuses p = search (rules, p)
