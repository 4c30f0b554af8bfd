-- What each instruction becomes over all passes.
use Rattle.std.proofs.Common.{◌≡◌, ℕ, List, [], ◌∷◌, ◌++◌, sym, ap, ◌∙◌, append_assoc, append-nil}
use Rattle.pass_proofs.specs.ir_model.declared.instr.Instr.{Instr}
use Rattle.pass_frames_code.proofs.layers.Grown.{both_becomes, grown_append}
use Rattle.pass_frames_code.proofs.layers.Idle.{all_stay, state_stays}
use Rattle.pass_frames_code.specs.Code.{ArePartsLeft, code_of, copied_there, loaded, loads, located, past_addressed, saved, stores, unmarked_one, wheres}
use Rattle.pass_frames_code.specs.Layers.{IsIdle, Layer, becomes, grown, passed}
use Rattle.pass_frames_code.specs.Passes.{unmarked_at}
use Rattle.pass_frames_code.specs.Places.{Framing, Placed, addressing_layer, celled_layer, copied_layer, copying_layer, loading_layer, marked, placed_layer, unmarked_layer, writing_layer}
use Rattle.pass_proofs.specs.run_laws.changed.Changed.{Each}

-- ---- idle instructions in front and behind

module _ {S : Type 0} (L : Layer S) where
  -- behind idle instructions a pass goes on as if they weren't there
  idle_ahead : (s : S) (is js : List Instr) → Each (IsIdle L) is → grown L s (is ++ js) ≡ is ++ grown L s js
  idle_ahead s is js h = grown_append L s is js ∙ (λ k. all_stay L is h s k ++ grown L (state_stays L is h s k) js)

  idle_between : (s : S) (is js ks : List Instr) → Each (IsIdle L) is
      → grown L s (js ++ (is ++ ks)) ≡ grown L s js ++ (is ++ grown L (passed L s js) ks)
  idle_between s is js ks h =
      grown_append L s js (is ++ ks)
      ∙ ap (λ (xs : List Instr). grown L s js ++ xs) (idle_ahead (passed L s js) is ks h)

  idle_behind : (s : S) (is js : List Instr) → Each (IsIdle L) is → grown L s (js ++ is) ≡ grown L s js ++ is
  idle_behind s is js h =
      grown_append L s js is ∙ ap (λ (xs : List Instr). grown L s js ++ xs) (all_stay L is h (passed L s js))

module _ (x : Framing) (k : ℕ) (s : Placed) (i : Instr) (left : ArePartsLeft x k s i) where
  abbrev one : List Instr
  one = unmarked_one x (located x s i)

  -- behind the loads the instruction with all that is written around it
  written_is : grown (writing_layer x k) s.0.0.0.1 (becomes (loading_layer x k) s.0.0.0.0 i) ≡ loads x s i
      ++ (saved x s i ++ (loaded x s i ∷ stores x s i))
  written_is =
      idle_ahead (writing_layer x k) s.0.0.0.1 (loads x s i) (loaded x s i ∷ []) left.written
      ∙ ap (λ (xs : List Instr). loads x s i ++ xs) (append-nil (saved x s i ++ (loaded x s i ∷ stores x s i)))

  -- ---- copies

  copied_is : grown (copying_layer x k) s.0.0.1 (loads x s i ++ (saved x s i ++ (loaded x s i ∷ stores x s i)))
      ≡ (loads x s i ++ saved x s i) ++ ((wheres x s i ++ (located x s i ∷ copied_there x s i)) ++ stores x s i)
  copied_is =
      ap (grown (copying_layer x k) s.0.0.1)
      (sym (append_assoc (loads x s i) (saved x s i) (loaded x s i ∷ stores x s i)))
      ∙ idle_ahead (copying_layer x k) s.0.0.1 (loads x s i ++ saved x s i) (loaded x s i ∷ stores x s i) left.copied
      ∙ ap (λ (xs : List Instr). (loads x s i ++ saved x s i)
      ++ (becomes (copying_layer x k) s.0.0.1 (loaded x s i) ++ xs))
      (all_stay (copying_layer x k) (stores x s i) left.copied_behind
      ((copying_layer x k).after s.0.0.1 (loaded x s i)))

  -- ---- markers

  shaped : (a b c e f : List Instr) (j : Instr)
      → (a ++ b) ++ ((c ++ (j ∷ e)) ++ f) ≡ ((a ++ b) ++ c) ++ ((j ∷ []) ++ (e ++ f))
  shaped a b c e f j = simp append_assoc

  unmarked_is : grown (unmarked_at (marked x)) (tt, tt)
      ((loads x s i ++ saved x s i) ++ ((wheres x s i ++ (located x s i ∷ copied_there x s i)) ++ stores x s i))
      ≡ ((loads x s i ++ saved x s i) ++ wheres x s i) ++ (one ++ (copied_there x s i ++ stores x s i))
  unmarked_is =
      ap (grown (unmarked_at (marked x)) (tt, tt))
      (shaped (loads x s i) (saved x s i) (wheres x s i) (copied_there x s i) (stores x s i) (located x s i))
      ∙ idle_ahead (unmarked_at (marked x)) (tt, tt) ((loads x s i ++ saved x s i) ++ wheres x s i)
      ((located x s i ∷ []) ++ (copied_there x s i ++ stores x s i)) left.unmarked
      ∙ ap (λ (xs : List Instr). ((loads x s i ++ saved x s i) ++ wheres x s i) ++ xs)
      (idle_behind (unmarked_at (marked x)) (tt, tt) (copied_there x s i ++ stores x s i) (located x s i ∷ [])
      left.unmarked_behind)

  -- ---- addresses

  addressed_is : grown (addressing_layer x k) s.1
      (((loads x s i ++ saved x s i) ++ wheres x s i) ++ (one ++ (copied_there x s i ++ stores x s i)))
      ≡ code_of x k s i
  addressed_is =
      ap (grown (addressing_layer x k) s.1)
      (append_assoc (loads x s i ++ saved x s i) (wheres x s i) (one ++ (copied_there x s i ++ stores x s i))
      ∙ append_assoc (loads x s i) (saved x s i) (wheres x s i ++ (one ++ (copied_there x s i ++ stores x s i))))
      ∙ idle_ahead (addressing_layer x k) s.1 (loads x s i)
      (saved x s i ++ (wheres x s i ++ (one ++ (copied_there x s i ++ stores x s i)))) left.addressed_loads
      ∙ ap (λ (xs : List Instr). loads x s i ++ xs)
      (idle_between (addressing_layer x k) s.1 (wheres x s i) (saved x s i)
      (one ++ (copied_there x s i ++ stores x s i)) left.addressed_wheres
      ∙ ap (λ (xs : List Instr). grown (addressing_layer x k) s.1 (saved x s i) ++ (wheres x s i ++ xs))
      (grown_append (addressing_layer x k) (past_addressed x k s.1 (saved x s i)) one
      (copied_there x s i ++ stores x s i)
      ∙ ap (λ (xs : List Instr). grown (addressing_layer x k) (past_addressed x k s.1 (saved x s i)) one ++ xs)
      (idle_behind (addressing_layer x k) (past_addressed x k (past_addressed x k s.1 (saved x s i)) one)
      (stores x s i) (copied_there x s i) left.addressed_stores)))

  pub instr_code : becomes (placed_layer x k) s i ≡ code_of x k s i
  instr_code =
      both_becomes (unmarked_layer x k) (addressing_layer x k) s.0 s.1 i
      ∙ ap (grown (addressing_layer x k) s.1)
      (both_becomes (copied_layer x k) (unmarked_at (marked x)) s.0.0 s.0.1 i
      ∙ ap (grown (unmarked_at (marked x)) (tt, tt))
      (both_becomes (celled_layer x k) (copying_layer x k) s.0.0.0 s.0.0.1 i
      ∙ ap (grown (copying_layer x k) s.0.0.1)
      (both_becomes (loading_layer x k) (writing_layer x k) s.0.0.0.0 s.0.0.0.1 i ∙ written_is)
      ∙ copied_is)
      ∙ unmarked_is)
      ∙ addressed_is
