-- Comments that are not UTF-8, and what they make of a reading.
use Rattle.std.proofs.Common.{◌≡◌, ℕ, ◌+◌, Bool, true, false, cond, nat_lt, List, Some, None, Result, Err, ap, sym, ◌∙◌}
use Rattle.std.specs.List.{slice_split}
use Rattle.tp_spec.specs.declared.plan.Plan.{Plan}
use Rattle.plan_text.specs.declared.fault.PlanFault.{PlanFault}
use Rattle.plan_text.specs.declared.fault.PlanFault.TheVariants as faults
use Rattle.plan_text.specs.Pieces.{is_mark, cut}
use Rattle.plan_text.specs.Files.{is_remark, remark, sooner, with_remark, IsFaultOf}
use Rattle.plan_text.proofs.Cuts.{parts_by, parts_cut}

-- the first line is one
pub remark_here : (n : ℕ) (text a b : List ℕ) → Some (a, b) ≡ cut 10 text → is_remark a ≡ true → remark n (slice_split (is_mark 10) text) ≡ Some n
remark_here n text a b h is =
    ap (remark n) (parts_cut 10 text ∙ ap (parts_by 10 text) (sym h))
    ∙ ap (λ (t : Bool). cond t (Some n) (remark (n + 1) (slice_split (is_mark 10) b))) is

-- the first line is none
pub remark_later : (n : ℕ) (text a b : List ℕ) → Some (a, b) ≡ cut 10 text → is_remark a ≡ false
    → remark n (slice_split (is_mark 10) text) ≡ remark (n + 1) (slice_split (is_mark 10) b)
remark_later n text a b h is =
    ap (remark n) (parts_cut 10 text ∙ ap (parts_by 10 text) (sym h))
    ∙ ap (λ (t : Bool). cond t (Some n) (remark (n + 1) (slice_split (is_mark 10) b))) is

-- the last line
pub remark_last : (n : ℕ) (text : List ℕ) (is : Bool) → None ≡ cut 10 text → is_remark text ≡ is → remark n (slice_split (is_mark 10) text) ≡ cond is (Some n) None
remark_last n text is h e =
    ap (remark n) (parts_cut 10 text ∙ ap (parts_by 10 text) (sym h))
    ∙ ap (λ (t : Bool). cond t (Some n) None) e

-- the lesser of two faults
either : (w : Result Plan PlanFault) (f g : PlanFault) (b : Bool) → (w ≡ Err f → IsFaultOf w f) → (w ≡ Err g → IsFaultOf w g) → w ≡ Err (cond b f g) → IsFaultOf w (cond b f g)
either w f g true left right h = left h
either w f g false left right h = right h

pub sooner_fault : (n : ℕ) (w : Result Plan PlanFault) (f : PlanFault) → IsFaultOf w f → IsFaultOf (with_remark (Some n) w) (sooner n f)
sooner_fault n w (faults.Shape k) h =
    either (with_remark (Some n) w) (faults.Shape k) (faults.Shape n) (nat_lt k n) (λ e. e) (λ e. e) (ap (with_remark (Some n)) h)
sooner_fault n w (faults.UnknownAction k) h =
    either (with_remark (Some n) w) (faults.UnknownAction k) (faults.Shape n) (nat_lt k n) (λ e. e) (λ e. e) (ap (with_remark (Some n)) h)
sooner_fault n w (faults.NotWhole k) h =
    either (with_remark (Some n) w) (faults.NotWhole k) (faults.Shape n) (nat_lt k n) (λ e. e) (λ e. e) (ap (with_remark (Some n)) h)
sooner_fault n w (faults.TooLarge k) h =
    either (with_remark (Some n) w) (faults.TooLarge k) (faults.Shape n) (nat_lt k n) (λ e. e) (λ e. e) (ap (with_remark (Some n)) h)
sooner_fault n w faults.NoMemory h = tt
