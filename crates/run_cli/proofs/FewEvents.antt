-- A trace has a line of at least one byte for each event.
use Rattle.std.proofs.Common.{◌≡◌, ℕ, zero, suc, ◌+◌, ◌^◌, ◌<◌, ◌≤◌, List, [], ◌∷◌, ◌++◌, length, length-append, codes, ap, sym, subst, ◌∙◌, Option, Some, None, Result, Ok, Err, IfOk, inr, arith}
use Rattle.std.specs.List.{flat_map}
use Rattle.tp_spec.specs.declared.event.Event.{Event}
use Rattle.tp_spec.specs.declared.fault.LineFault.{LineFault}
use Rattle.tp_spec.specs.declared.fault.LineFault.TheVariants.{NoMemory}
use Rattle.line_text.specs.FirstFault.{TellsFault}
use Rattle.trace_text.specs.Grammar.{IsTrace, IsTraceable}
use Rattle.trace_text.specs.Traces.{event_line, event_lines, header_line, trace_text}
use Rattle.tp_spec.specs.declared.plan.Limits.{Limits}
use Rattle.tp_spec.specs.declared.problem.Problem.{Problem}
use Rattle.tp_world.specs.Contents.{FilesView}
use Rattle.tp_world.specs.Loads.{Wanted}
use Rattle.run_cli.specs.Replaying.{IsAnswer, IsTraceAnswer, RefusesTrace, trace_line}
use Rattle.run_cli.specs.Sources.{HoldsProblem}
use Rattle.run_cli.specs.declared.answer.Answer.{Answer}
use Rattle.run_cli.specs.declared.words.Source.{Source}

ended : (xs ys zs : List ℕ) → length ((xs ++ codes "\n") ++ zs) ≡ length xs + 1 + length zs
ended xs ys zs = let a = length-append (xs ++ codes "\n") zs in let b = length-append xs (codes "\n") in omega arith

long_lines : (events : List Event) → length events ≤ length (event_lines events)
unfolding event_lines
long_lines [] = omega arith
long_lines (e ∷ es) =
    let a = ended (event_line e) [] (flat_map (λ (x : Event). event_line x ++ codes "\n") es) in
    let b : length es ≤ length (flat_map (λ (x : Event). event_line x ++ codes "\n") es) = long_lines es in
    omega arith

long_text : (history : List Event) → length history ≤ length (trace_text history)
unfolding trace_text
long_text history =
    let a = length-append (header_line (length history) ++ codes "\n") (event_lines history) in
    let b = long_lines history in
    omega arith

-- the events of a trace of at most 64 MB can be counted
pub few_events : (bytes : List ℕ) (history : List Event) → bytes ≡ trace_text history → length bytes ≤ 67108864 → length history < 2 ^ 31
few_events bytes history is short =
    let a = long_text history in
    let b : length bytes ≡ length (trace_text history) = ap (λ (xs : List ℕ). length xs) is in
    omega arith

none-some : (xs : List ℕ) → ◌≡◌ {A = Option (List ℕ)} None (Some xs) → ⊥
none-some xs e = absurd cc

-- where a text is refused it is no trace, since a reader may answer to one with want of memory alone
pub refused_trace : (bytes line : List ℕ) (fault : LineFault) → TellsFault IsTrace fault bytes
    → ((history : List Event) → IsTraceable history → bytes ≡ trace_text history → fault ≡ NoMemory)
    → trace_line fault ≡ Some line → RefusesTrace bytes line
refused_trace bytes line fault tells only is = record {
  fault = fault;
  none = λ t. none-some line (sym (ap trace_line (only t.0 t.1 t.2)) ∙ is);
  first = tells;
  line_is = is;
}

-- what a trace gives, where the files of a source are loaded with it
pub answered : {E : Type 0} (limits : Limits) (source : Source) (trace_file : Wanted) (before after : FilesView) (p : Problem) (bytes other : List ℕ) (r : Result Answer E)
    → HoldsProblem source (trace_file ∷ []) p (bytes ∷ []) before after → other ≡ bytes
    → IfOk r (λ a. IsTraceAnswer p limits other a.status a.line.items)
    → IfOk r (λ a. IsAnswer limits source trace_file before after a.status a.line.items)
answered limits source trace_file before after p bytes other (Ok a) holds same h = inr (record {
  problem = p;
  bytes = bytes;
  holds = holds;
  answer = subst (λ (xs : List ℕ). IsTraceAnswer p limits xs a.status a.line.items) same h;
})
answered limits source trace_file before after p bytes other (Err e) holds same h = tt
