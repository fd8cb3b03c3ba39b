-- Turns, one after another.
use Rattle.std.proofs.Common.{◌≡◌, ℕ, ◌+◌, ◌≤◌, List, [], ◌∷◌, ◌++◌, arith}
use Rattle.std.proofs.lemmas.Bool.Decides.{nat_tests}
use Rattle.turn_lock.specs.Turns.{Stretch, stands, stands_in, Follow, FollowEach, once, with_turn}

follow_further : (from end end' : ℕ) (g : List Stretch) → end ≤ end' → Follow from end g → Follow from end' g
follow_further from end end' [] le f = omega arith
follow_further from end end' (t ∷ ts) le f = (f.0, f.1, follow_further t.1 end end' ts le f.2)

-- a later end serves too
pub follow_each_further : (end end' : ℕ) (gs : List (List Stretch)) → end ≤ end' → FollowEach end gs → FollowEach end' gs
follow_each_further end end' [] le f = tt
follow_each_further end end' (g ∷ gs) le f = (follow_further 0 end end' g le f.0, follow_each_further end end' gs le f.1)

follow_turn : (from end end' : ℕ) (g : List Stretch) → end ≤ end' → Follow from end g → Follow from end' (g ++ (end, end') ∷ [])
follow_turn from end end' [] le f = (f, le, omega arith)
follow_turn from end end' (t ∷ ts) le f = (f.0, f.1, follow_turn t.1 end end' ts le f.2)

-- a turn that begins where the last one ends
pub follow_each_turn : (end end' : ℕ) (gs : List (List Stretch)) → end ≤ end' → FollowEach end gs → FollowEach end' (with_turn gs end end')
follow_each_turn end end' [] le f = ((omega arith, le, omega arith), tt)
follow_each_turn end end' (g ∷ gs) le f = (follow_turn 0 end end' g le f.0, follow_each_further end end' gs le f.1)

stands_turn : (x from end : ℕ) (g : List Stretch) → stands x (g ++ (from, end) ∷ []) ≡ stands x g + once from end x
stands_turn x from end [] = omega arith
stands_turn x from end (t ∷ ts) = omega (arith, stands_turn x from end ts)

-- a turn more
pub stands_in_turn : (x from end : ℕ) (gs : List (List Stretch)) → stands_in x (with_turn gs from end) ≡ stands_in x gs + once from end x
stands_in_turn x from end [] = omega arith
stands_in_turn x from end (g ∷ gs) = omega (arith, stands_turn x from end g)

pub stands_in_both : (x : ℕ) (gs hs : List (List Stretch)) → stands_in x (gs ++ hs) ≡ stands_in x gs + stands_in x hs
stands_in_both x [] hs = omega arith
stands_in_both x (g ∷ gs) hs = omega (arith, stands_in_both x gs hs)

pub follow_each_both : (end : ℕ) (gs hs : List (List Stretch)) → FollowEach end gs → FollowEach end hs → FollowEach end (gs ++ hs)
follow_each_both end [] hs f g = g
follow_each_both end (x ∷ gs) hs f g = (f.0, follow_each_both end gs hs f.1 g)

-- two stretches that meet are one
pub once_more : (from mid end x : ℕ) → from ≤ mid → mid ≤ end → once from mid x + once mid end x ≡ once from end x
once_more from mid end x a b = grind (arith, nat_tests)

pub once_none : (from x : ℕ) → once from from x ≡ 0
once_none from x = grind (arith, nat_tests)
