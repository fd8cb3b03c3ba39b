-- What a sink is given of the commands of acts.
use Rattle.std.specs.Prelude.{◌≡◌, ◌⊎◌, ◌≤◌, ℕ, suc, List, [], ◌∷◌, ◌++◌, length, map, take, Some, slice_get, Result, Ok, Err}
use Rattle.std.specs.Io.KnownBytes.{Appends, Keeps}
use Rattle.std.specs.List.{flat_map}
use Rattle.tp_spec.specs.declared.plan.Timed.{Timed}
use Rattle.tp_spec.specs.declared.problem.Problem.{Problem}
use Rattle.tp_spec.specs.Texts.{command_text}
use Rattle.tp_world.specs.Counts.{Rose}
use Rattle.tp_world.specs.Sinks.{SinkView, AppendsFront}
use Rattle.tp_world.specs.declared.sink.SendFault.{SendFault}
use Rattle.tp_world.specs.declared.sink.SendFault.TheVariants.{Failed, NoMemory}

-- the command lines of acts, in order
abbrev pub command_lines : Problem → List Timed → List (List ℕ)
command_lines p acts = map (command_text p) acts

-- the same as one text
abbrev pub commands : Problem → List Timed → List ℕ
commands p acts = flat_map (command_text p) acts

-- each act's line was put whole, in one put, in order
pub record SendsAll (p : Problem) (acts : List Timed) (before after : SinkView) : Type 0 where
  pub puts : after.puts ≡ before.puts ++ command_lines p acts
  pub held : Appends before.held after.held (commands p acts)
  pub unfailed : after.faults ≡ before.faults

-- The put of one act's line failed, behind the whole lines of those before it. Some of its bytes
-- may be there.
pub record SendsUntil (p : Problem) (acts : List Timed) (before after : SinkView) : Type 0 where
  pub done : ℕ
  pub next : Timed
  pub is_next : slice_get acts done ≡ Some next
  pub puts : after.puts ≡ before.puts ++ command_lines p (take (suc done) acts)
  pub bytes : ℕ
  pub enough : length (commands p (take done acts)) ≤ bytes
  pub held : Appends before.held after.held (take bytes (commands p (take (suc done) acts)))
  pub failed : Rose before.faults after.faults

-- Memory was refused at one act's line, of which no byte is there, behind the whole lines of those
-- before it.
pub record SendsSome (p : Problem) (acts : List Timed) (before after : SinkView) : Type 0 where
  pub done : ℕ
  pub next : Timed
  pub is_next : slice_get acts done ≡ Some next
  pub puts : (after.puts ≡ before.puts ++ command_lines p (take done acts))
      ⊎ (after.puts ≡ before.puts ++ command_lines p (take (suc done) acts))
  pub held : Appends before.held after.held (commands p (take done acts))
  pub unfailed : after.faults ≡ before.faults

abbrev pub GivesSent : Problem → List Timed → SinkView → SinkView → Result Unit SendFault → Type 0
GivesSent p acts before after (Ok done) = SendsAll p acts before after
GivesSent p acts before after (Err Failed) = SendsUntil p acts before after
GivesSent p acts before after (Err NoMemory) = SendsSome p acts before after

-- One act's line was put whole.
pub record SendsOne (p : Problem) (act : Timed) (before after : SinkView) : Type 0 where
  pub puts : after.puts ≡ before.puts ++ command_text p act ∷ []
  pub held : Appends before.held after.held (command_text p act)
  pub unfailed : after.faults ≡ before.faults

-- The put of one act's line failed, behind some of its bytes.
pub record FailsOne (p : Problem) (act : Timed) (before after : SinkView) : Type 0 where
  pub puts : after.puts ≡ before.puts ++ command_text p act ∷ []
  pub held : AppendsFront before.held after.held (command_text p act)
  pub failed : Rose before.faults after.faults

-- Memory was refused at one act's line, before its put or in it.
pub record RefusesOne (p : Problem) (act : Timed) (before after : SinkView) : Type 0 where
  pub puts : (after.puts ≡ before.puts)
      ⊎ (after.puts ≡ before.puts ++ command_text p act ∷ [])
  pub held : Keeps before.held after.held
  pub unfailed : after.faults ≡ before.faults

abbrev pub GivesOne : Problem → Timed → SinkView → SinkView → Result Unit SendFault → Type 0
GivesOne p act before after (Ok done) = SendsOne p act before after
GivesOne p act before after (Err Failed) = FailsOne p act before after
GivesOne p act before after (Err NoMemory) = RefusesOne p act before after
