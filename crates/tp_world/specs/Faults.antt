-- How the counts of faults change: a call that fails raises its count, every other leaves it.
use Rattle.std.specs.Prelude.{◌≡◌, ℕ, Result, Ok, Err}
use Rattle.tp_world.specs.declared.files.LoadFault.{LoadFault}
use Rattle.tp_world.specs.declared.files.LoadFault.TheVariants as loads
use Rattle.tp_world.specs.declared.files.SaveFault.{SaveFault}
use Rattle.tp_world.specs.declared.files.SaveFault.TheVariants as saves
use Rattle.tp_world.specs.declared.sink.SendFault.{SendFault}
use Rattle.tp_world.specs.declared.sink.SendFault.TheVariants as sends
use Rattle.tp_world.specs.Counts.{Rose, one_more}

-- the count of failed loads, from before a load with this answer to behind it
abbrev pub CountsLoad : {A : Type 0} → Result A LoadFault → ℕ → ℕ → Type 0
CountsLoad (Ok text) before after = after ≡ before
CountsLoad (Err loads.Failed) before after = Rose before after
CountsLoad (Err loads.TooLong) before after = after ≡ before
CountsLoad (Err loads.NoMemory) before after = after ≡ before

-- the same of a save
abbrev pub CountsSave : {A : Type 0} → Result A SaveFault → ℕ → ℕ → Type 0
CountsSave (Ok done) before after = after ≡ before
CountsSave (Err saves.Failed) before after = Rose before after
CountsSave (Err saves.NoMemory) before after = after ≡ before

-- the same of a put
abbrev pub CountsPut : {A : Type 0} → Result A SendFault → ℕ → ℕ → Type 0
CountsPut (Ok done) before after = after ≡ before
CountsPut (Err sends.Failed) before after = Rose before after
CountsPut (Err sends.NoMemory) before after = after ≡ before

-- the count of failed loads in memory behind a load with this answer
abbrev pub load_faults_after : {A : Type 0} → ℕ → Result A LoadFault → ℕ
load_faults_after count (Ok text) = count
load_faults_after count (Err loads.Failed) = one_more count
load_faults_after count (Err loads.TooLong) = count
load_faults_after count (Err loads.NoMemory) = count
