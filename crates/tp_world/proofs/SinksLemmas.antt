-- One put after another, into a sink that tells what it holds.
use Rattle.std.proofs.Common.{◌≡◌, ℕ, ◌+◌, min, List, ◌++◌, length, take, Option, sym, subst, arith}
use Rattle.std.proofs.KnownBytes.{Appends-trans}
use Rattle.std.specs.Io.KnownBytes.{Appends}
use Rattle.std.proofs.Math.Seq.{take-append-add}
use Rattle.std.proofs.lemmas.Grind.{common_steps}
use Rattle.tp_world.specs.Sinks.{AppendsFront}

take-min : (bs cs : List ℕ) (n : ℕ) → take n bs ≡ take (min n (length bs)) (bs ++ cs)
take-min bs cs n = grind (arith, common_steps)

take-seam : (bs cs : List ℕ) (n : ℕ) → bs ++ take n cs ≡ take (length bs + n) (bs ++ cs)
take-seam bs cs n = sym (take-append-add bs cs n)

-- the front of the first bytes is a front of all
pub AppendsFront-first : (a b : Option (List ℕ)) (bs cs : List ℕ) → AppendsFront a b bs → AppendsFront a b (bs ++ cs)
AppendsFront-first a b bs cs h = (min h.0 (length bs), subst (Appends a b) (take-min bs cs h.0) h.1)

-- the first bytes and a front of the rest are a front of all
pub AppendsFront-more : (a b c : Option (List ℕ)) (bs cs : List ℕ) → Appends a b bs → AppendsFront b c cs → AppendsFront a c (bs ++ cs)
AppendsFront-more a b c bs cs p h = (length bs + h.0, subst (Appends a c) (take-seam bs cs h.0) (Appends-trans a b c bs (take h.0 cs) p h.1))
