-- How a script is read line by line.
use Rattle.std.specs.Prelude.{◌≡◌, ℕ, List, ◌++◌, Result, Ok, Err}
use Rattle.script_text.specs.declared.script.ScriptLine.{ScriptLine}
use Rattle.script_text.specs.declared.script.ScriptFault.{ScriptFault}
use Rattle.script_text.specs.declared.script.ScriptFault.TheVariants.{Line, Holding, Idle, NoMemory}
use Rattle.script_text.specs.Scripts.{line_of, before, with_line}

-- what is read has this fault; or memory was refused
abbrev pub HasFault : {A : Type 0} → Result A ScriptFault → ScriptFault → Type 0
HasFault read (Line n) = read ≡ Err (Line n)
HasFault read (Holding n) = read ≡ Err (Holding n)
HasFault read (Idle n) = read ≡ Err (Idle n)
HasFault read NoMemory = Unit {0}

-- these hold a job behind a line, or it has a fault, or memory was refused
abbrev pub Turns : Result (List ℕ) ScriptFault → Result Unit ScriptFault → List ℕ → Type 0
Turns turned (Ok done) after = turned ≡ Ok after
Turns turned (Err fault) after = HasFault turned fault

-- what a line does, whatever stands behind it
abbrev pub Steps : ℕ → List ℕ → List ℕ → Result ScriptLine ScriptFault → List ℕ → Type 0
Steps n holders text (Ok line) after =
    (behind : List ℕ → Result (List ScriptLine) ScriptFault)
    → with_line n holders (line_of text) behind ≡ before line (behind after)
Steps n holders text (Err fault) after =
    (behind : List ℕ → Result (List ScriptLine) ScriptFault)
    → HasFault (with_line n holders (line_of text) behind) fault

-- lines before others
abbrev pub behind_lines : List ScriptLine → Result (List ScriptLine) ScriptFault
    → Result (List ScriptLine) ScriptFault
behind_lines front (Ok lines) = Ok (front ++ lines)
behind_lines front (Err fault) = Err fault
