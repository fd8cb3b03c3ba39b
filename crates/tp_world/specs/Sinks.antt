-- What a sink holds, and what a put leaves in it.
use Rattle.std.specs.Prelude.{ℕ, List, Option, take, find, ◌==◌}
use Rattle.std.specs.Option.{option_map}
use Rattle.std.specs.Io.KnownBytes.{Appends}

-- A sink as clauses see it: the bytes that it holds, where it says so; how often a put failed, up
-- to the greatest `u64`; and the bytes of each put that was asked for, in order.
pub record SinkView : Type 0 where
  pub held : Option (List ℕ)
  pub faults : ℕ
  pub puts : List (List ℕ)

-- some bytes from the front were appended, none or all of them included
abbrev pub AppendsFront : Option (List ℕ) → Option (List ℕ) → List ℕ → Type 0
AppendsFront old new bytes = (n : ℕ) × Appends old new (take n bytes)

-- how many bytes of this put go out before it fails, where it is one that fails
abbrev pub bytes_of_put : List (ℕ × ℕ) → ℕ → Option ℕ
bytes_of_put failing number =
    option_map (λ pair. pair.1) (find (λ pair. pair.0 == number) failing)

-- a sink in memory: what it holds, the puts that fail with how many of their bytes still go out,
-- how many puts there were, how many of them failed, and the bytes of each
pub record SinkState : Type 0 where
  pub bytes : List ℕ
  pub failing : List (ℕ × ℕ)
  pub calls : ℕ
  pub faults : ℕ
  pub puts : List (List ℕ)
