-- What is put of a whole run: its commands, and then its result.
use Rattle.std.proofs.Common.{◌≡◌, ◌⊎◌, refl, sym, ap, subst, ◌∙◌, ℕ, ◌+◌, ◌≤◌, min, inl, inr, Option, Some, None, List, [], ◌∷◌, ◌++◌, length, length-append, append_assoc, append-nil, take, arith}
use Rattle.std.specs.Prelude.{Result, Ok, Err}
use Rattle.std.specs.List.{flat_map}
use Rattle.std.specs.Io.KnownBytes.{Appends, Keeps}
use Rattle.std.proofs.lemmas.Grind.{flat_map-append}
use Rattle.std.proofs.lemmas.List.{take-append-le, take_min}
use Rattle.std.proofs.Math.Seq.{take-append-add, take-append_seam, take-length}
use Rattle.tp_spec.specs.declared.event.Event.{Event}
use Rattle.tp_spec.specs.declared.event.Event.TheVariants.{Tick}
use Rattle.tp_spec.specs.declared.plan.Limits.{Limits}
use Rattle.tp_spec.specs.declared.plan.Timed.{Timed}
use Rattle.tp_spec.specs.declared.problem.Problem.{Problem}
use Rattle.tp_spec.specs.Texts.{command_of, command_text, out_text, result_text}
use Rattle.tp_world.specs.Counts.{Rose}
use Rattle.tp_world.specs.Sinks.{SinkView}
use Rattle.dispatcher.specs.Sending.{command_lines, commands}
use Rattle.serial_runs.specs.Commands.{committed, PutsAll, PutsFront as CommandsFront, PutsUntil, PutsSome}
use Rattle.run_cli.specs.Outcomes.{PrintsHistory, PrintsFront, WithholdsEnd, lines_of}
use Rattle.run_cli.specs.Printing.{Prints, PrintsAll}
use Rattle.run_cli.specs.Printing as printing

-- what was appended after what was appended
appends-on : (a b c : Option (List ℕ)) (xs ys : List ℕ) → Appends a b xs → Appends b c ys → Appends a c (xs ++ ys)
appends-on None b c xs ys h k = tt
appends-on (Some is) None c xs ys h k = absurd h
appends-on (Some is) (Some bs) None xs ys h k = absurd k
appends-on (Some is) (Some bs) (Some cs) xs ys h k = k ∙ ap (λ (zs : List ℕ). zs ++ ys) h ∙ append_assoc is xs ys

keeps-on : (a b c : Option (List ℕ)) (xs : List ℕ) → Appends a b xs → Keeps b c → Appends a c xs
keeps-on None b c xs h k = tt
keeps-on (Some is) None c xs h k = absurd h
keeps-on (Some is) (Some bs) None xs h k = absurd k
keeps-on (Some is) (Some bs) (Some cs) xs h k = k ∙ h

module _ (p : Problem) (l : Limits) (h : List Event)
    (told : flat_map (command_of p) h ≡ commands p (committed l h))
    (grows : (front rest : List Event) → h ≡ front ++ rest → (more : List Timed) × (committed l h ≡ committed l front ++ more)) where
  abbrev pub result : List ℕ
  result = result_text p h

  abbrev pub said : List ℕ
  said = commands p (committed l h)

  abbrev pub lines : List (List ℕ)
  lines = command_lines p (committed l h)

  text : out_text p h ≡ said ++ result
  text = ap (λ (cs : List ℕ). cs ++ result) told

  -- the commands of a front are among all
  among : (front rest : List Event) → h ≡ front ++ rest → length (commands p (committed l front)) ≤ length said
  among front rest is =
      let grown = grows front rest is in
      let long : length said ≡ length (commands p (committed l front)) + length (commands p grown.0) =
      ap length (ap (commands p) grown.1 ∙ flat_map-append (command_text p) (committed l front) grown.0) ∙ length-append (commands p (committed l front)) (commands p grown.0) in
      omega (arith, long)

  -- all commands and the whole result
  pub prints-whole : (s t u : SinkView) (wanted status : ℕ) → PutsAll p l h s t → t.puts ++ result ∷ [] ≡ u.puts → PrintsAll result wanted t u status → PrintsHistory p l h s u
  prints-whole s t u wanted status all puts whole = record {
    puts = sym puts ∙ ap (λ (xs : List (List ℕ)). xs ++ result ∷ []) all.puts ∙ append_assoc s.puts lines (result ∷ []);
    printed = subst (λ (bytes : List ℕ). Appends s.held u.held bytes) (sym text) (appends-on s.held t.held u.held said result all.held whole.printed);
    unfailed = whole.unfailed ∙ all.unfailed;
  }

  -- all commands, and n bytes of the result
  pub prints-front : (s t u : SinkView) (n : ℕ) → PutsAll p l h s t → t.puts ++ result ∷ [] ≡ u.puts → Appends t.held u.held (take n result) → PrintsFront p l h s u
  prints-front s t u n all puts more = record {
    count = length (lines ++ result ∷ []);
    puts = sym puts ∙ ap (λ (xs : List (List ℕ)). xs ++ result ∷ []) all.puts ∙ append_assoc s.puts lines (result ∷ [])
        ∙ ap (λ (xs : List (List ℕ)). s.puts ++ xs) (sym (take-length (lines ++ result ∷ [])));
    bytes = length said + n;
    printed = subst (λ (bytes : List ℕ). Appends s.held u.held bytes) (sym (ap (take (length said + n)) text ∙ take-append-add said result n))
        (appends-on s.held t.held u.held said (take n result) all.held more);
    enough = λ front rest actor reading is. omega (arith, among front (Tick actor reading ∷ rest) is);
  }

  -- all commands, and nothing of the result; it may have been asked for
  pub prints-commands : (s t u : SinkView) (status : ℕ) → PutsAll p l h s t → WithholdsEnd p h t u status → PrintsFront p l h s u
  prints-commands s t u status all none = elim none.puts [
    | inl same ↦ record {
      count = length lines;
      puts = same ∙ all.puts ∙ ap (λ (xs : List (List ℕ)). s.puts ++ xs) (sym (take-append_seam lines (result ∷ [])));
      bytes = length said;
      printed = held;
      enough = λ front rest actor reading is. among front (Tick actor reading ∷ rest) is;
    }
    | inr asked ↦ record {
      count = length (lines ++ result ∷ []);
      puts = asked ∙ ap (λ (xs : List (List ℕ)). xs ++ result ∷ []) all.puts ∙ append_assoc s.puts lines (result ∷ [])
          ∙ ap (λ (xs : List (List ℕ)). s.puts ++ xs) (sym (take-length (lines ++ result ∷ [])));
      bytes = length said;
      printed = held;
      enough = λ front rest actor reading is. among front (Tick actor reading ∷ rest) is;
    }
  ] where
    held : Appends s.held u.held (take (length said) (out_text p h))
    held = subst (λ (bytes : List ℕ). Appends s.held u.held bytes) (sym (ap (take (length said)) text ∙ take-append_seam said result))
        (keeps-on s.held t.held u.held said all.held none.kept)

  -- a front of the commands, and nothing behind it
  pub prints-some : (s t : SinkView) → CommandsFront p l h s t → PrintsFront p l h s t
  prints-some s t front = record {
    count = min front.count (length lines);
    puts = front.puts ∙ ap (λ (xs : List (List ℕ)). s.puts ++ xs)
        (sym (take-append-le (min front.count (length lines)) lines (result ∷ []) (omega arith) ∙ take_min front.count lines));
    bytes = min front.bytes (length said);
    printed = subst (λ (bytes : List ℕ). Appends s.held t.held bytes)
        (sym (ap (take (min front.bytes (length said))) text ∙ take-append-le (min front.bytes (length said)) said result (omega arith) ∙ take_min front.bytes said)) front.held;
    enough = λ before rest actor reading is. omega (arith, among before (Tick actor reading ∷ rest) is, front.enough before rest actor reading is);
  }

-- nothing is put of no history
pub prints-none : (p : Problem) (l : Limits) (h : List Event) (s : SinkView) → h ≡ [] → Appends s.held s.held [] → PrintsFront p l h s s
prints-none p l h s none held = record {
  count = 0;
  puts = sym (append-nil s.puts);
  bytes = 0;
  printed = held;
  enough = λ front rest actor reading is. absurd (omega (arith, ap length none, ap length is, length-append front (Tick actor reading ∷ rest)));
}

pub appends-none : (o : Option (List ℕ)) → Appends o o []
appends-none None = tt
appends-none (Some xs) = sym (append-nil xs)
