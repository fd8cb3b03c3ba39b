-- Tests over the first numbers.
use Rattle.std.proofs.Common.{◌≡◌, refl, sym, ap, ◌∙◌, ℕ, zero, suc, ◌+◌, ◌*◌, ◌/◌, ◌<◌, ◌≤◌, Bool, true, false, not, ◌&&◌, ◌||◌, [], ◌∷◌, ◌++◌, length, slice_index, ◌⊎◌, inl, inr, nat_lt, arith}
use Rattle.std.specs.List.{list_all, range_with_len}
use Rattle.std.specs.Prelude.{◌↔◌, IsTrue}
use Rattle.std.proofs.lemmas.Bool.{and_from, false≢true, cases_lt, ltb-true}
use Rattle.std.proofs.lemmas.List.Folds.{list_all-append}
use Rattle.std.proofs.lemmas.Option.{slice_get_past}
use Rattle.tp_spec.specs.declared.problem.Problem.{Problem}
use Rattle.tp_spec.specs.Items.{invariants}
use Rattle.tp_spec.specs.Lists.{part_of}
use Rattle.tp_spec.specs.States.{State, holds}
use Rattle.world_state.specs.declared.rows.BitRow.{BitRow}
use Rattle.world_state.specs.Rows.{is_in_row, InBoth}
use Rattle.world_state.proofs.RowBits.{none_at}

pub range-more : (a n j : ℕ) → a + n ≡ j → range_with_len a (n + 1) ≡ range_with_len a n ++ j ∷ []
range-more a zero j e = let same : a ≡ j = omega (arith, e) in ap (λ k. k ∷ []) same
range-more a (suc n) j e =
    let more : suc n + 1 ≡ suc (n + 1) = omega arith in
    ap (range_with_len a) more ∙ ap (λ xs. a ∷ xs) (range-more (a + 1) n j (omega (arith, e)))

pub all-more : (test : ℕ → Bool) (n : ℕ) → list_all test (range_with_len 0 n) ≡ true → test n ≡ true → list_all test (range_with_len 0 (n + 1)) ≡ true
all-more test n h k =
    ap (list_all test) (range-more 0 n n (omega arith))
    ∙ list_all-append test (range_with_len 0 n) (n ∷ [])
    ∙ and_from (list_all test (range_with_len 0 n)) (list_all test (n ∷ [])) h (and_from (test n) true k refl)

false-right : (b : Bool) → (b && false) ≡ false
false-right true = refl
false-right false = refl

broken-from : (test : ℕ → Bool) (a n k : ℕ) → k < n → test (a + k) ≡ false → list_all test (range_with_len a n) ≡ false
broken-from test a zero k below e = absurd (omega (arith, below))
broken-from test a (suc n) zero below e =
    let here : a + 0 ≡ a = omega arith in
    ap (λ b. b && list_all test (range_with_len (a + 1) n)) (ap test (sym here) ∙ e)
broken-from test a (suc n) (suc k) below e =
    let there : a + 1 + k ≡ a + suc k = omega arith in
    ap (λ b. test a && b) (broken-from test (a + 1) n k (omega (arith, below)) (ap test there ∙ e)) ∙ false-right (test a)

pub all-broken : (test : ℕ → Bool) (n k : ℕ) → k < n → test k ≡ false → list_all test (range_with_len 0 n) ≡ false
all-broken test n k below e =
    let here : 0 + k ≡ k = omega arith in
    broken-from test 0 n k below (ap test here ∙ e)

pub range-append : (a m n : ℕ) → range_with_len a (m + n) ≡ range_with_len a m ++ range_with_len (a + m) n
range-append a zero n =
    let none : 0 + n ≡ n = omega arith in
    let same : a ≡ a + 0 = omega arith in
    ap (range_with_len a) none ∙ ap (λ k. range_with_len k n) same
range-append a (suc m) n =
    let more : suc m + n ≡ suc (m + n) = omega arith in
    let same : a + 1 + m ≡ a + suc m = omega arith in
    ap (range_with_len a) more ∙ ap (λ xs. a ∷ xs) (range-append (a + 1) m n ∙ ap (λ k. range_with_len (a + 1) m ++ range_with_len k n) same)

pub all-next : (test : ℕ → Bool) (a n : ℕ) → list_all test (range_with_len a n) ≡ true → test (a + n) ≡ true → list_all test (range_with_len a (n + 1)) ≡ true
all-next test a n h k =
    ap (list_all test) (range-more a n (a + n) refl)
    ∙ list_all-append test (range_with_len a n) ((a + n) ∷ [])
    ∙ and_from (list_all test (range_with_len a n)) (list_all test ((a + n) ∷ [])) h (and_from (test (a + n)) true k refl)

all-range : (test : ℕ → Bool) (a m : ℕ) → ((b : ℕ) → a ≤ b → b < a + m → test b ≡ true) → list_all test (range_with_len a m) ≡ true
all-range test a zero each = refl
all-range test a (suc m) each =
    and_from (test a) (list_all test (range_with_len (a + 1) m)) (each a (omega arith) (omega arith))
    (all-range test (a + 1) m (λ b above below. each b (omega (arith, above)) (omega (arith, below))))

all-at : (test : ℕ → Bool) (n k : ℕ) → k < n → list_all test (range_with_len 0 n) ≡ true → test k ≡ true
all-at test n k below h = by_test (test k) refl
  where
    by_test : (b : Bool) → test k ≡ b → test k ≡ true
    by_test true e = e
    by_test false e = absurd (false≢true (sym (all-broken test n k below e) ∙ h))

pub all-cut : (test : ℕ → Bool) (n m : ℕ) → n ≤ m → list_all test (range_with_len 0 m) ≡ true → list_all test (range_with_len 0 n) ≡ true
all-cut test n m all h = all-range test 0 n (λ b above below. all-at test m b (omega (arith, all, below)) h)

-- the next block
pub all-block : (test : ℕ → Bool) (k : ℕ) → list_all test (range_with_len 0 (64 * k)) ≡ true → list_all test (range_with_len (64 * k) 64) ≡ true → list_all test (range_with_len 0 (64 * (k + 1))) ≡ true
all-block test k h g =
    let count : 64 * (k + 1) ≡ 64 * k + 64 = omega arith in
    let none : 0 + 64 * k ≡ 64 * k = omega arith in
    ap (λ (n : ℕ). list_all test (range_with_len 0 n)) count
    ∙ ap (list_all test) (range-append 0 (64 * k) 64 ∙ ap (λ (n : ℕ). range_with_len 0 (64 * k) ++ range_with_len n 64) none)
    ∙ list_all-append test (range_with_len 0 (64 * k)) (range_with_len (64 * k) 64)
    ∙ and_from (list_all test (range_with_len 0 (64 * k))) (list_all test (range_with_len (64 * k) 64)) h g

-- a test that fails in a block, and behind n nowhere
pub block-broken : (test : ℕ → Bool) (n k : ℕ) → ((a : ℕ) → n ≤ a → test a ≡ true) → list_all test (range_with_len (64 * k) 64) ≡ false → list_all test (range_with_len 0 n) ≡ false
block-broken test n k behind h = by_all (list_all test (range_with_len 0 n)) refl
  where
    each : list_all test (range_with_len 0 n) ≡ true → (a : ℕ) → (a < n) ⊎ (n ≤ a) → test a ≡ true
    each all a (inl below) = all-at test n a below all
    each all a (inr above) = behind a above

    by_all : (b : Bool) → list_all test (range_with_len 0 n) ≡ b → list_all test (range_with_len 0 n) ≡ false
    by_all false e = e
    by_all true e = absurd (false≢true (sym h ∙ all-range test (64 * k) 64 (λ a above below. each e a (cases_lt a n))))

pub block-broken-at : (test : ℕ → Bool) (a k : ℕ) → k < 64 → test (a + k) ≡ false → list_all test (range_with_len a 64) ≡ false
block-broken-at test a k below e = broken-from test a 64 k below e

or-right : (a b : Bool) → b ≡ true → (a || b) ≡ true
or-right true b e = refl
or-right false b e = e

-- what is no action asks nothing
pub kept-behind : (p : Problem) (row : BitRow) (s : State) (a : ℕ) → length p.actions ≤ a → (not (is_in_row row a) || list_all (holds s) (invariants p a)) ≡ true
kept-behind p row s a above =
    or-right (not (is_in_row row a)) (list_all (holds s) (invariants p a)) (ap (λ o. list_all (holds s) (part_of o (λ x. x.all_conds))) (slice_get_past p.actions a above))

-- a block of which none runs
pub kept-none : (p : Problem) (row : BitRow) (s : State) (k : ℕ) → slice_index row.words.items k ≡ 0 → list_all (λ a. not (is_in_row row a) || list_all (holds s) (invariants p a)) (range_with_len (64 * k) 64) ≡ true
kept-none p row s k e =
    all-range (λ a. not (is_in_row row a) || list_all (holds s) (invariants p a)) (64 * k) 64 (λ b above below.
    let block : b / 64 ≡ k = omega (arith, above, below) in
    ap (λ t. not t || list_all (holds s) (invariants p b)) (none_at row.words.items b (ap (slice_index row.words.items) block ∙ e)))

-- a row with no number but those below n, which meets itself where it has one
pub none-in : (row : BitRow) (n : ℕ) (meets : Bool) → IsTrue meets ↔ InBoth row.words.items row.words.items → ((a : ℕ) → is_in_row row a ≡ true → nat_lt a n ≡ true)
    → not meets ≡ list_all (λ a. not (is_in_row row a)) (range_with_len 0 n)
none-in row n true h inside =
    let both : InBoth row.words.items row.words.items = h.0 refl in
    sym (all-broken (λ a. not (is_in_row row a)) n both.member (ltb-true both.member n (inside both.member both.in_first)) (ap not both.in_first))
none-in row n false h inside = sym (all-range (λ a. not (is_in_row row a)) 0 n (λ a above below. by_member a (is_in_row row a) refl))
  where
    by_member : (a : ℕ) (b : Bool) → is_in_row row a ≡ b → not (is_in_row row a) ≡ true
    by_member a false e = ap not e
    by_member a true e = absurd (false≢true (h.1 (record { member = a; in_first = e; in_second = e })))
