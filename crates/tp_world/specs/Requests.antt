-- What files are asked for.
use Rattle.std.specs.Prelude.{◌≡◌, ℕ, List, ◌⊎◌}
use Rattle.std.specs.Coded.{Coded, code_by, coded×, coded⊎, coded_list, coded_ℕ}
use Rattle.std.proofs.Common.{inl, inr, refl}

-- to load a name, or to save these bytes under a name
pub data Request : Type 0 where
  Load : List ℕ → Request
  Save : List ℕ → List ℕ → Request

abbrev parts : Request → List ℕ ⊎ (List ℕ × List ℕ)
parts (Load name) = inl name
parts (Save name bytes) = inr (name, bytes)

abbrev request : List ℕ ⊎ (List ℕ × List ℕ) → Request
request (inl name) = Load name
request (inr named) = Save named.0 named.1

abbrev request-parts : (r : Request) → request (parts r) ≡ r
request-parts (Load name) = refl
request-parts (Save name bytes) = refl

-- how the logic stores a request
abbrev pub request_code : Coded Request
request_code =
    code_by (List ℕ ⊎ (List ℕ × List ℕ))
    (coded⊎ (coded_list coded_ℕ) (coded× (coded_list coded_ℕ) (coded_list coded_ℕ))) parts request
    request-parts
