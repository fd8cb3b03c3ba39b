-- What is drawn from any seed, in plain numbers.
use Rattle.std.specs.Prelude.{ℕ, ◌+◌, ◌*◌, ◌≤◌}
use Rattle.workload.specs.Texts.{customers_drawn, distance_drawn, deadline_drawn}

-- Four to six customers.
abbrev pub FewCustomers : Type 0
FewCustomers = (seed : ℕ) → (4 ≤ customers_drawn seed) × (customers_drawn seed ≤ 6)

-- Distances of 3 to 9.
abbrev pub ShortDistances : Type 0
ShortDistances = (x : ℕ) → (3 ≤ distance_drawn x) × (distance_drawn x ≤ 9)

-- Deadlines of 140 to 159 for the first customer, and 40 later for each further one.
abbrev pub LateDeadlines : Type 0
LateDeadlines = (customer x : ℕ)
    → (100 + 40 * customer ≤ deadline_drawn customer x)
    × (deadline_drawn customer x ≤ 119 + 40 * customer)
