-- What `strip_prefix` says of a dash.
use Rattle.std.proofs.Common.{◌≡◌, ◌≢◌, ℕ, List, [], ◌∷◌, Option, Some, None, Bor, refl, sym, ap, rules}
use Rattle.std.specs.Prelude.{MatchOption}
use Rattle.std.specs.Option.{option_map}
use Rattle.std.proofs.lemmas.Bool.Decides.{nat_tests}
use Rattle.run_cli.specs.Arguments.{without_dash}

no_dash : (b : ℕ) (rest : List ℕ) → ((more : List ℕ) → b ∷ rest ≢ 45 ∷ more) → b ≢ 45
no_dash b rest none e = none rest (ap (λ x. x ∷ rest) e)

pub dash_cut : (bs : List ℕ) (r : Option (Bor (List ℕ))) → MatchOption r ((rest : List ℕ) → bs ≢ 45 ∷ rest) (λ x. bs ≡ 45 ∷ x.now) → option_map (λ t. t.now) r ≡ without_dash bs
dash_cut [] None none = refl
dash_cut (b ∷ rest) None none = search (rules, no_dash b rest none, nat_tests)
dash_cut bs (Some x) e = sym (ap without_dash e)
