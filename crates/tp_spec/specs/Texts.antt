-- What is printed: acts, commands, plans and results.
use Rattle.std.specs.Prelude.{ℕ, ◌+◌, ◌/◌, ◌%◌, ◌==◌, List, [], ◌∷◌, ◌++◌, codes, decimal, if◌then◌else◌, slice_get, drop}
use Rattle.std.specs.List.{flat_map}
use Rattle.tp_spec.specs.declared.event.Event.{Event}
use Rattle.tp_spec.specs.declared.event.Event.TheVariants.{Dispatch, Publish, Limit, Exhaust, Halt}
use Rattle.tp_spec.specs.declared.event.Cause.{Cause}
use Rattle.tp_spec.specs.declared.event.Cause.TheVariants.{Out, Script, Memory}
use Rattle.tp_spec.specs.declared.plan.Plan.{Plan}
use Rattle.tp_spec.specs.declared.plan.Timed.{Timed}
use Rattle.tp_spec.specs.declared.problem.Problem.{Problem}
use Rattle.tp_spec.specs.Lists.{part_of}
use Rattle.tp_spec.specs.Items.{is_durative}

-- a tick in the problem's unit of time: `7`, or at scale 100 `7.05`; the digits of 100 + 5 without
-- their first
abbrev pub tick_text : ℕ → ℕ → List ℕ
tick_text scale t =
    decimal (t / scale)
    ++ (if scale == 1 then [] else codes "." ++ drop 1 (decimal (scale + t % scale)))

abbrev pub name_text : Problem → ℕ → List ℕ
name_text p a = part_of (slice_get p.actions a) (λ x. x.name)

-- `START: (NAME)`, and for a durative action ` [LENGTH]` behind it
abbrev pub act_text : Problem → Timed → List ℕ
act_text p x =
    tick_text p.scale x.start ++ codes ": (" ++ name_text p x.action ++ codes ")"
    ++ (if is_durative p x.action then codes " [" ++ tick_text p.scale x.length ++ codes "]"
    else [])

abbrev pub command_text : Problem → Timed → List ℕ
command_text p x = codes "do " ++ act_text p x ++ codes "\n"

abbrev pub plan_text : Problem → Plan → List ℕ
plan_text p plan =
    codes "plan\n" ++ flat_map (λ x. act_text p x ++ codes "\n") plan.acts
    ++ codes "end " ++ tick_text p.scale plan.end ++ codes "\n"

abbrev pub cause_text : Cause → List ℕ
cause_text Out = []
cause_text Script = codes "stopped\n"
cause_text Memory = []

-- the result that an outcome prints
abbrev pub outcome_text : Problem → Event → List ℕ
outcome_text p (Publish actor id plan) = plan_text p plan
outcome_text p Exhaust = codes "exhausted\n"
outcome_text p (Limit actor id made marks) = codes "limit\n"
outcome_text p (Halt cause) = cause_text cause
outcome_text p _ = []

-- the result of a history, by its last event
abbrev pub result_text : Problem → List Event → List ℕ
result_text p [] = []
result_text p (e ∷ []) = outcome_text p e
result_text p (e ∷ f ∷ rest) = result_text p (f ∷ rest)

abbrev pub command_of : Problem → Event → List ℕ
command_of p (Dispatch act) = command_text p act
command_of p _ = []

-- What a history prints: its commands in order, and its result.
-- The form of PDDL plan lines; the rest is this project's own.
abbrev pub out_text : Problem → List Event → List ℕ
out_text p history = flat_map (command_of p) history ++ result_text p history
