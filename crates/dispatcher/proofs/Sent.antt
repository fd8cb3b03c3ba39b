-- Sending one act's line more.
use Rattle.std.proofs.Common.{◌≡◌, ℕ, suc, ◌+◌, List, [], ◌∷◌, ◌++◌, length, take, Option, Some, None, ◌⊎◌, inl, inr, refl, sym, ap, subst, ◌∙◌, append_assoc, append-nil, arith}
use Rattle.std.specs.Prelude.{slice_get, Err}
use Rattle.std.specs.Io.KnownBytes.{Appends, Keeps}
use Rattle.std.proofs.Math.Seq.{take-append-add}
use Rattle.std.proofs.lemmas.List.{map-append, flat_map_more}
use Rattle.tp_spec.specs.declared.plan.Timed.{Timed}
use Rattle.tp_spec.specs.declared.problem.Problem.{Problem}
use Rattle.tp_spec.specs.Texts.{command_text}
use Rattle.tp_world.specs.Counts.{Rose}
use Rattle.tp_world.specs.Sinks.{SinkView}
use Rattle.tp_world.specs.declared.sink.SendFault.{SendFault}
use Rattle.tp_world.specs.declared.sink.SendFault.TheVariants.{Failed, NoMemory}
use Rattle.dispatcher.specs.Sending.{command_lines, commands, SendsAll, SendsUntil, SendsSome, GivesSent, SendsOne, FailsOne, RefusesOne, GivesOne}

-- bytes behind bytes
appends_more : (a b c : Option (List ℕ)) (xs ys zs : List ℕ) → Appends a b xs → Appends b c ys → xs ++ ys ≡ zs → Appends a c zs
appends_more None b c xs ys zs p q e = tt
appends_more (Some x) None c xs ys zs p q e = absurd p
appends_more (Some x) (Some y) None xs ys zs p q e = absurd q
appends_more (Some x) (Some y) (Some z) xs ys zs p q e =
    q ∙ ap (λ (l : List ℕ). l ++ ys) p ∙ append_assoc x xs ys ∙ ap (λ (l : List ℕ). x ++ l) e

appends_kept : (a b c : Option (List ℕ)) (xs : List ℕ) → Appends a b xs → Keeps b c → Appends a c xs
appends_kept None b c xs p q = tt
appends_kept (Some x) None c xs p q = absurd p
appends_kept (Some x) (Some y) None xs p q = absurd q
appends_kept (Some x) (Some y) (Some z) xs p q = q ∙ p

pub sends_none : (p : Problem) (v : SinkView) → SendsAll p [] v v
sends_none p v = record { puts = sym (append-nil v.puts); held = none v.held; unfailed = refl } where
  none : (a : Option (List ℕ)) → Appends a a []
  none None = tt
  none (Some x) = sym (append-nil x)

module _ (p : Problem) (acts : List Timed) (k : ℕ) (x : Timed) (before mid after : SinkView) (more : take (k + 1) acts ≡ take k acts ++ x ∷ []) (sent : SendsAll p (take k acts) before mid) where
  next : take (suc k) acts ≡ take k acts ++ x ∷ []
  next = let e : suc k ≡ k + 1 = omega arith in ap (λ (n : ℕ). take n acts) e ∙ more

  lines_more : command_lines p (take k acts) ++ command_text p x ∷ [] ≡ command_lines p (take k acts ++ x ∷ [])
  lines_more = sym (map-append (command_text p) (take k acts) (x ∷ []))

  bytes_more : commands p (take k acts) ++ command_text p x ≡ commands p (take k acts ++ x ∷ [])
  bytes_more = flat_map_more (command_text p) [] (take k acts) x

  puts_more : after.puts ≡ mid.puts ++ command_text p x ∷ [] → after.puts ≡ before.puts ++ command_lines p (take k acts ++ x ∷ [])
  puts_more e =
      e ∙ ap (λ (l : List (List ℕ)). l ++ command_text p x ∷ []) sent.puts
      ∙ append_assoc before.puts (command_lines p (take k acts)) (command_text p x ∷ [])
      ∙ ap (λ (l : List (List ℕ)). before.puts ++ l) lines_more

  puts_next : after.puts ≡ mid.puts ++ command_text p x ∷ [] → after.puts ≡ before.puts ++ command_lines p (take (suc k) acts)
  puts_next e = puts_more e ∙ ap (λ (l : List Timed). before.puts ++ command_lines p l) (sym next)

  pub sends_more : SendsOne p x mid after → SendsAll p (take (k + 1) acts) before after
  sends_more one = subst (λ (l : List Timed). SendsAll p l before after) (sym more) (record {
    puts = puts_more one.puts;
    held = appends_more before.held mid.held after.held _ _ _ sent.held one.held bytes_more;
    unfailed = one.unfailed ∙ sent.unfailed;
  })

  module _ (at : slice_get acts k ≡ Some x) where
    fails : FailsOne p x mid after → SendsUntil p acts before after
    fails one =
        let n : ℕ = one.held.0 in
        let front : take (length (commands p (take k acts)) + n) (commands p (take (suc k) acts)) ≡ commands p (take k acts) ++ take n (command_text p x) =
        ap (λ (l : List Timed). take (length (commands p (take k acts)) + n) (commands p l)) next
        ∙ ap (take (length (commands p (take k acts)) + n)) (sym bytes_more)
        ∙ take-append-add (commands p (take k acts)) (command_text p x) n in
        record {
          done = k;
          next = x;
          is_next = at;
          puts = puts_next one.puts;
          bytes = length (commands p (take k acts)) + n;
          enough = omega arith;
          held = appends_more before.held mid.held after.held _ _ _ sent.held one.held.1 (sym front);
          failed = subst (λ (c : ℕ). Rose c after.faults) sent.unfailed one.failed;
        }

    some_puts : (after.puts ≡ mid.puts) ⊎ (after.puts ≡ mid.puts ++ command_text p x ∷ [])
        → (after.puts ≡ before.puts ++ command_lines p (take k acts)) ⊎ (after.puts ≡ before.puts ++ command_lines p (take (suc k) acts))
    some_puts (inl e) = inl (e ∙ sent.puts)
    some_puts (inr e) = inr (puts_next e)

    refuses : RefusesOne p x mid after → SendsSome p acts before after
    refuses one = record {
      done = k;
      next = x;
      is_next = at;
      puts = some_puts one.puts;
      held = appends_kept before.held mid.held after.held _ sent.held one.held;
      unfailed = one.unfailed ∙ sent.unfailed;
    }

    pub stops : (fault : SendFault) → GivesOne p x mid after (Err fault) → GivesSent p acts before after (Err fault)
    stops Failed one = fails one
    stops NoMemory one = refuses one
