-- The places of a problem: 0 is the depot, and i is the customer ci.
use Rattle.std.specs.Prelude.{ℕ, zero, suc, ◌==◌, List, [], ◌∷◌, ◌++◌, codes, decimal, if◌then◌else◌}
use Rattle.workload.specs.declared.places.Leg.{Leg}

-- the customers 1 to n
abbrev pub customers : ℕ → List ℕ
customers zero = []
customers (suc n) = customers n ++ suc n ∷ []

-- the depot and the customers 1 to n
abbrev pub places : ℕ → List ℕ
places n = 0 ∷ customers n

abbrev pub place_name : ℕ → List ℕ
place_name place = if place == 0 then codes "depot" else codes "c" ++ decimal place

abbrev pub leg : ℕ → ℕ → Leg
leg from to = record { from = from; to = to }

-- the legs from a place to each other one, in order
abbrev pub legs_from : ℕ → List ℕ → List Leg
legs_from from [] = []
legs_from from (to ∷ rest) =
    if to == from then legs_from from rest else leg from to ∷ legs_from from rest

-- the legs from each of some places to each other place, the first place leading
abbrev pub legs_between : List ℕ → List ℕ → List Leg
legs_between [] to = []
legs_between (from ∷ rest) to = legs_from from to ++ legs_between rest to

-- each ordered pair of different places
abbrev pub legs : List ℕ → List Leg
legs all = legs_between all all
