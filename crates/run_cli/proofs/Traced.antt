-- What a run leaves of the files where its trace is saved, or is not.
use Rattle.std.proofs.Common.{◌≡◌, ◌⊎◌, refl, sym, subst, ◌∙◌, ℕ, ◌<◌, inl, inr, Bool, true, false, List, Option, Some, None, arith}
use Rattle.tp_spec.specs.declared.event.Event.{Event}
use Rattle.tp_world.specs.Contents.{Contents, FilesView, KeepsOthers, Stores}
use Rattle.run_cli.specs.Tracing.{is_said, SavesTrace, SavesSaid, KeepsTrace, KeepsAllBut}

others-same : (before : Contents) (name : List ℕ) → KeepsOthers before before name
others-same None name = tt
others-same (Some content) name = λ other differs. refl

stored-others : (before after : Contents) (name bytes : List ℕ) → Stores before after name bytes → KeepsOthers before after name
stored-others None after name bytes stores = stores
stored-others (Some content) None name bytes stores = stores
stored-others (Some content) (Some now) name bytes stores = stores.1

same-others : (before after : Contents) (name : List ℕ) → after ≡ before → KeepsOthers before after name
same-others before after name same = subst (λ (c : Contents). KeepsOthers before c name) (sym same) (others-same before name)

-- the same contents, whatever file is named
pub same-keeps : (trace : Option (List ℕ)) (before after : Contents) → after ≡ before → KeepsAllBut trace before after
same-keeps None before after same = same
same-keeps (Some name) before after same = same-others before after name same

saved-others : (name : List ℕ) (history : List Event) (first : ℕ) (before after : FilesView) (status : ℕ) → SavesTrace name history first before after status
    → KeepsOthers before.contents after.contents name
saved-others name history first before after status (inl kept) = stored-others before.contents after.contents name _ kept.stored
saved-others name history first before after status (inr (inl unkept)) = unkept.others
saved-others name history first before after status (inr (inr half)) = same-others before.contents after.contents name half.contents

said-others : (b : Bool) (name : List ℕ) (history : List Event) (first : ℕ) (before after : FilesView) (status : ℕ) → SavesSaid b name history first before after status
    → KeepsOthers before.contents after.contents name
said-others true name history first before after status saves = saved-others name history first before after status saves
said-others false name history first before after status nothing = same-others before.contents after.contents name (λ i. (nothing.0 i).contents)

-- every file but the one that is named has what it had before the save
keeps-others : (trace : Option (List ℕ)) (history : List Event) (first : ℕ) (before after : FilesView) (status : ℕ) → KeepsTrace trace history first before after status
    → KeepsAllBut trace before.contents after.contents
keeps-others None history first before after status nothing = λ i. (nothing.0 i).contents
keeps-others (Some name) history first before after status saves = said-others (is_said first) name history first before after status saves

-- and so it has what it had before the files were loaded
pub keeps-all : (trace : Option (List ℕ)) (history : List Event) (first : ℕ) (before loaded after : FilesView) (status : ℕ) → loaded.contents ≡ before.contents
    → KeepsTrace trace history first loaded after status → KeepsAllBut trace before.contents after.contents
keeps-all trace history first before loaded after status unchanged kept =
    subst (λ (c : Contents). KeepsAllBut trace c after.contents) unchanged (keeps-others trace history first loaded after status kept)

saved-status : (name : List ℕ) (history : List Event) (first : ℕ) (before after : FilesView) (status : ℕ) → SavesTrace name history first before after status → status < 6 → status ≡ first
saved-status name history first before after status (inl kept) below = kept.status_is
saved-status name history first before after status (inr (inl unkept)) below = absurd (omega (arith, unkept.status_is, below))
saved-status name history first before after status (inr (inr half)) below = absurd (omega (arith, half.status_is, below))

said-status : (b : Bool) (name : List ℕ) (history : List Event) (first : ℕ) (before after : FilesView) (status : ℕ) → SavesSaid b name history first before after status → status < 6 → status ≡ first
said-status true name history first before after status saves below = saved-status name history first before after status saves below
said-status false name history first before after status nothing below = nothing.1

-- a status below those of a failed output and of refused memory is that of what was put
pub kept-status : (trace : Option (List ℕ)) (history : List Event) (first : ℕ) (before after : FilesView) (status : ℕ) → KeepsTrace trace history first before after status → status < 6
    → status ≡ first
kept-status None history first before after status nothing below = nothing.1
kept-status (Some name) history first before after status saves below = said-status (is_said first) name history first before after status saves below

-- where memory was refused nothing is saved
pub seven-keeps : (trace : Option (List ℕ)) (history : List Event) (files : FilesView) (status : ℕ) → status ≡ 7 → KeepsTrace trace history status files files status
seven-keeps None history files status seven = (refl, refl)
seven-keeps (Some name) history files status seven = subst (λ (b : Bool). SavesSaid b name history status files files status) (sym (said-seven status seven)) (refl, refl) where
  said-seven : (n : ℕ) → n ≡ 7 → is_said n ≡ false
  said-seven n is = subst (λ (m : ℕ). is_said m ≡ false) (sym is) refl
