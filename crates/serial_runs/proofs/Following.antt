-- A history follows a script line by line.
use Rattle.std.proofs.Common.{◌≡◌, refl, sym, ap, subst, ◌∙◌, ℕ, Bool, true, false, not, ◌&&◌, ◌==◌, List, [], ◌∷◌, ◌++◌, length, drop, Option, Some, None}
use Rattle.std.proofs.Math.Seq.{drop-append_seam}
use Rattle.std.proofs.lemmas.Bool.{and_parts, and_from, eq-eqb, false≢true}
use Rattle.std.specs.List.{list_all}
use Rattle.tp_spec.specs.declared.event.Event.{Event}
use Rattle.tp_spec.specs.declared.event.Event.TheVariants.{Tick, Drop, Dispatch, Take, Expand, Publish, Limit, Exhaust, Halt}
use Rattle.tp_spec.specs.declared.plan.Limits.{Limits}
use Rattle.tp_spec.specs.Following.{turn_events}
use Rattle.tp_spec.specs.Machine.{Machine, end_of}
use Rattle.script_text.specs.declared.script.ScriptLine.{ScriptLine}
use Rattle.script_text.specs.Follows.{follow, serves, held_after, is_end}
use Rattle.serial_runs.specs.Playing.{is_inside}

-- what may stand behind a turn: nothing, the next turn or a halt
abbrev opens : List Event → Bool
opens [] = true
opens (Tick actor reading ∷ rest) = true
opens (Halt cause ∷ rest) = true
opens (e ∷ rest) = false

end-opens : (tail : List Event) → is_end tail ≡ true → opens tail ≡ true
end-opens [] h = refl
end-opens (Tick a r ∷ rest) h = refl
end-opens (Drop id ∷ rest) h = h
end-opens (Dispatch act ∷ rest) h = h
end-opens (Take a id ∷ rest) h = h
end-opens (Expand a id marks ∷ rest) h = h
end-opens (Publish a id plan ∷ rest) h = h
end-opens (Limit a id made marks ∷ rest) h = h
end-opens (Exhaust ∷ rest) h = h
end-opens (Halt cause ∷ rest) h = refl

follow-opens : (l : Limits) (m : Machine) (held : ℕ → Option ℕ) (lines : List ScriptLine) (tail : List Event) → follow l m held lines tail ≡ true → opens tail ≡ true
follow-opens l m held [] tail h = end-opens tail h
follow-opens l m held (line ∷ lines) [] h = refl
follow-opens l m held (line ∷ lines) (Tick a r ∷ rest) h = refl
follow-opens l m held (line ∷ lines) (Drop id ∷ rest) h = h
follow-opens l m held (line ∷ lines) (Dispatch act ∷ rest) h = h
follow-opens l m held (line ∷ lines) (Take a id ∷ rest) h = h
follow-opens l m held (line ∷ lines) (Expand a id marks ∷ rest) h = h
follow-opens l m held (line ∷ lines) (Publish a id plan ∷ rest) h = h
follow-opens l m held (line ∷ lines) (Limit a id made marks ∷ rest) h = h
follow-opens l m held (line ∷ lines) (Exhaust ∷ rest) h = h
follow-opens l m held (line ∷ lines) (Halt cause ∷ rest) h = refl

turn-before : (events tail : List Event) → list_all is_inside events ≡ true → opens tail ≡ true → turn_events (events ++ tail) ≡ events
turn-before [] [] h o = refl
turn-before [] (Tick a r ∷ tail) h o = refl
turn-before [] (Halt cause ∷ tail) h o = refl
turn-before [] (Drop id ∷ tail) h o = absurd (false≢true o)
turn-before [] (Dispatch act ∷ tail) h o = absurd (false≢true o)
turn-before [] (Take a id ∷ tail) h o = absurd (false≢true o)
turn-before [] (Expand a id marks ∷ tail) h o = absurd (false≢true o)
turn-before [] (Publish a id plan ∷ tail) h o = absurd (false≢true o)
turn-before [] (Limit a id made marks ∷ tail) h o = absurd (false≢true o)
turn-before [] (Exhaust ∷ tail) h o = absurd (false≢true o)
turn-before (Tick a r ∷ es) tail h o = absurd (false≢true h)
turn-before (Drop id ∷ es) tail h o = ap (λ x. Drop id ∷ x) (turn-before es tail h o)
turn-before (Dispatch act ∷ es) tail h o = ap (λ x. Dispatch act ∷ x) (turn-before es tail h o)
turn-before (Take a id ∷ es) tail h o = ap (λ x. Take a id ∷ x) (turn-before es tail h o)
turn-before (Expand a id marks ∷ es) tail h o = ap (λ x. Expand a id marks ∷ x) (turn-before es tail h o)
turn-before (Publish a id plan ∷ es) tail h o = ap (λ x. Publish a id plan ∷ x) (turn-before es tail h o)
turn-before (Limit a id made marks ∷ es) tail h o = ap (λ x. Limit a id made marks ∷ x) (turn-before es tail h o)
turn-before (Exhaust ∷ es) tail h o = ap (λ x. Exhaust ∷ x) (turn-before es tail h o)
turn-before (Halt cause ∷ es) tail h o = absurd (false≢true h)

-- A line's turn, and what follows the later lines from the state behind it, follows the script from
-- this line on.
pub follow-line : (l : Limits) (m : Machine) (held : ℕ → Option ℕ) (line : ScriptLine) (lines : List ScriptLine) (reading : ℕ) (events tail : List Event)
    → list_all is_inside events ≡ true → reading ≡ line.reading
    → serves line.verb (held line.actor) (end_of l m (Tick line.actor reading ∷ events)) events ≡ true
    → follow l (end_of l m (Tick line.actor reading ∷ events)) (held_after line.verb line.actor events held) lines tail ≡ true
    → follow l m held (line ∷ lines) (Tick line.actor reading ∷ (events ++ tail)) ≡ true
follow-line l m held line lines reading events tail inside read served rest =
    subst (λ ev. (((line.actor == line.actor) && (reading == line.reading)) && serves line.verb (held line.actor) (end_of l m (Tick line.actor reading ∷ ev)) ev
    && follow l (end_of l m (Tick line.actor reading ∷ ev)) (held_after line.verb line.actor ev held) lines (drop (length ev) (events ++ tail))) ≡ true)
    (sym (turn-before events tail inside (follow-opens l (end_of l m (Tick line.actor reading ∷ events)) (held_after line.verb line.actor events held) lines tail rest)))
    (and_from _ _ (and_from _ _ (and_from _ _ (eq-eqb line.actor line.actor refl) (eq-eqb reading line.reading read)) served)
    (ap (follow l (end_of l m (Tick line.actor reading ∷ events)) (held_after line.verb line.actor events held) lines) (drop-append_seam events tail) ∙ rest))
