-- One load, and one load behind others.
use Rattle.std.proofs.Common.{◌≡◌, ◌∙◌, refl, sym, ap, subst, ℕ, inl, inr, List, [], ◌∷◌, ◌++◌, map, append_assoc, append-nil, Result, Ok, Err, OnErr}
use Rattle.std.specs.Prelude.{IsErr, IsErrAnd, IfErr}
use Rattle.tp_world.specs.Contents.{Contents, FilesView}
use Rattle.tp_world.specs.Counts.{Rose}
use Rattle.tp_world.specs.Loads.{Wanted, HoldsTooMany, AllHold, AsksFor, AreLoaded, StopsAt, AsksFront, load_of}
use Rattle.tp_world.specs.Requests.{Request}
use Rattle.run_cli.specs.Stopping.{IsStopped, IsStop, too_long_line, failed_line}
use Rattle.run_cli.specs.declared.loading.Stop.{Stop}
use Rattle.run_cli.specs.declared.loading.Stop.TheVariants.{Said, NoMemory}

module _ (file : Wanted) (before after : FilesView) (asked : AsksFor (file ∷ []) before after) where
  pub stops-one : StopsAt (file ∷ []) file before after
  stops-one = record { earlier = []; later = []; order = refl; texts = []; hold = tt; asked = asked }

  pub too-long-one : (status : ℕ) (line : List ℕ) → HoldsTooMany before.contents file → after.load_faults ≡ before.load_faults
      → status ≡ 4 → line ≡ too_long_line file → IsStopped (file ∷ []) before after status line
  too-long-one status line long same is says =
      inl (record { file = file; at = record { stops = stops-one; long = long; unfailed = same }; status_is = is; line_is = says })

  pub failed-one : (status : ℕ) (line : List ℕ) → Rose before.load_faults after.load_faults
      → status ≡ 5 → line ≡ failed_line file → IsStopped (file ∷ []) before after status line
  failed-one status line rose is says =
      inr (record { file = file; at = record { stops = stops-one; failed = rose }; status_is = is; line_is = says })

-- all files were asked for
pub all-asked : {files : List Wanted} {before after : FilesView} → AsksFor files before after → AsksFront files before after
all-asked {files} asked = record { front = files; rest = []; order = sym (append-nil files); asked = asked }

-- none was
pub none-asked : (files : List Wanted) {before after : FilesView} → after ≡ before → AsksFront files before after
none-asked files {before} same = record { front = []; rest = files; order = refl; asked = ap (λ (f : FilesView). f.requests) same ∙ sym (append-nil before.requests) }

-- those up to the one where the loads stop
pub asked-front : {files : List Wanted} {file : Wanted} {before after : FilesView} → StopsAt files file before after → AsksFront files before after
asked-front {files} {file} s = record {
  front = s.earlier ++ file ∷ [];
  rest = s.later;
  order = s.order ∙ sym (append_assoc s.earlier (file ∷ []) s.later);
  asked = s.asked;
}

pub stopped-front : {files : List Wanted} {before after : FilesView} {status : ℕ} {line : List ℕ} → IsStopped files before after status line → AsksFront files before after
stopped-front (inl w) = asked-front w.at.stops
stopped-front (inr w) = asked-front w.at.stops

-- the same where more files are wanted behind them
module _ (more files : List Wanted) (before after : FilesView) where
  stops-sooner : {file : Wanted} → StopsAt files file before after → StopsAt (files ++ more) file before after
  stops-sooner {file} s = record {
    earlier = s.earlier;
    later = s.later ++ more;
    order = ap (λ (fs : List Wanted). fs ++ more) s.order ∙ append_assoc s.earlier (file ∷ s.later) more;
    texts = s.texts;
    hold = s.hold;
    asked = s.asked;
  }

  pub stop-sooner : (s : Stop) → IsStop files before after s → IsStop (files ++ more) before after s
  stop-sooner (Said answer) (inl w) = inl (record { file = w.file; at = record { stops = stops-sooner w.at.stops; long = w.at.long; unfailed = w.at.unfailed }; status_is = w.status_is; line_is = w.line_is })
  stop-sooner (Said answer) (inr w) = inr (record { file = w.file; at = record { stops = stops-sooner w.at.stops; failed = w.at.failed }; status_is = w.status_is; line_is = w.line_is })
  stop-sooner NoMemory w = record { front = w.front; rest = w.rest ++ more; order = ap (λ (fs : List Wanted). fs ++ more) w.order ∙ append_assoc w.front w.rest more; asked = w.asked }

-- some files were loaded, and then others were asked for
all-held : (contents : Contents) (files more : List Wanted) (texts others : List (List ℕ)) → AllHold contents files texts → AllHold contents more others → AllHold contents (files ++ more) (texts ++ others)
all-held contents [] more [] others hold held = held
all-held contents [] more (text ∷ texts) others hold held = absurd hold
all-held contents (file ∷ files) more [] others hold held = absurd hold
all-held contents (file ∷ files) more (text ∷ texts) others hold held = (hold.0, all-held contents files more texts others hold.1 held)

loads-onto : (files more : List Wanted) → map load_of (files ++ more) ≡ map load_of files ++ map load_of more
loads-onto [] more = refl
loads-onto (file ∷ files) more = ap (λ (rs : List Request). load_of file ∷ rs) (loads-onto files more)

module _ (first : List Wanted) (firsts : List (List ℕ)) (x y z : FilesView) (one : AreLoaded first firsts x y) (same : y.contents ≡ x.contents) where
  longer : (files : List Wanted) → AsksFor files y z → AsksFor (first ++ files) x z
  longer files asked =
      asked ∙ ap (λ (rs : List Request). rs ++ map load_of files) one.asked ∙ append_assoc x.requests (map load_of first) (map load_of files)
      ∙ ap (λ (rs : List Request). x.requests ++ rs) (sym (loads-onto first files))

  all-hold : (files : List Wanted) (texts : List (List ℕ)) → AllHold y.contents files texts → AllHold x.contents (first ++ files) (firsts ++ texts)
  all-hold files texts hold = all-held x.contents first files firsts texts one.hold (subst (λ (c : Contents). AllHold c files texts) same hold)

  pub both-loaded : (files : List Wanted) (texts : List (List ℕ)) → AreLoaded files texts y z → AreLoaded (first ++ files) (firsts ++ texts) x z
  both-loaded files texts two = record {
    hold = all-hold files texts two.hold;
    asked = longer files two.asked;
    unfailed = two.unfailed ∙ one.unfailed;
  }

  stops-later : (files : List Wanted) (file : Wanted) → StopsAt files file y z → StopsAt (first ++ files) file x z
  stops-later files file s = record {
    earlier = first ++ s.earlier;
    later = s.later;
    order = ap (λ (fs : List Wanted). first ++ fs) s.order ∙ sym (append_assoc first s.earlier (file ∷ s.later));
    texts = firsts ++ s.texts;
    hold = all-hold s.earlier s.texts s.hold;
    asked = subst (λ (fs : List Wanted). AsksFor fs x z) (sym (append_assoc first s.earlier (file ∷ []))) (longer (s.earlier ++ file ∷ []) s.asked);
  }

  pub stop-later : (files : List Wanted) (s : Stop) → IsStop files y z s → IsStop (first ++ files) x z s
  stop-later files (Said answer) (inl w) = inl (record {
    file = w.file;
    at = record {
      stops = stops-later files w.file w.at.stops;
      long = subst (λ (c : Contents). HoldsTooMany c w.file) same w.at.long;
      unfailed = w.at.unfailed ∙ one.unfailed;
    };
    status_is = w.status_is;
    line_is = w.line_is;
  })
  stop-later files (Said answer) (inr w) = inr (record {
    file = w.file;
    at = record {
      stops = stops-later files w.file w.at.stops;
      failed = subst (λ (n : ℕ). Rose n z.load_faults) one.unfailed w.at.failed;
    };
    status_is = w.status_is;
    line_is = w.line_is;
  })
  stop-later files NoMemory w =
      record { front = first ++ w.front; rest = w.rest; order = ap (λ (fs : List Wanted). first ++ fs) w.order ∙ sym (append_assoc first w.front w.rest); asked = longer w.front w.asked }

-- no further file
pub alone-loaded : (files : List Wanted) (texts : List (List ℕ)) (x y : FilesView) → AreLoaded files texts x y → AreLoaded (files ++ []) (texts ++ []) x y
alone-loaded files texts x y loaded =
    subst (λ (fs : List Wanted). AreLoaded fs (texts ++ []) x y) (sym (append-nil files)) (subst (λ (ts : List (List ℕ)). AreLoaded files ts x y) (sym (append-nil texts)) loaded)

-- what a `?` gives where it returns
pub from-memory : {T : Type 0} (P : Stop → Type 0) (r : Result T Stop) → IsErr r × IsErrAnd r (λ s. s ≡ NoMemory) → P NoMemory → IfErr r P
from-memory P (Ok t) e p = tt
from-memory P (Err s) e p = subst P (sym e.1) p

pub from-stop : {T : Type 0} (P : Stop → Type 0) (r : Result T Stop) (t : Stop) → IsErr r × IsErrAnd r (λ s. s ≡ t) → P t → IfErr r P
from-stop P (Ok x) t e p = tt
from-stop P (Err s) t e p = subst P (sym e.1) p

pub on-err : {T E : Type 0} {P : Type 0} (r : Result T E) → P → OnErr r P
on-err (Ok t) p = tt
on-err (Err e) p = p
