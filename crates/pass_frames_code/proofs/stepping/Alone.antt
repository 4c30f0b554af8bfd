-- An instruction around which nothing is put but what fetches its operands and what stores its result.
use Rattle.std.proofs.Common.{◌≡◌, ℕ, Bool, true, List, [], ◌∷◌, ◌++◌, refl, sym, ap, ◌∙◌, subst, append_assoc, append-nil}
use Rattle.std.specs.Prelude.{None, Option, Some, if◌then◌else◌}
use Rattle.pass_proofs.proofs.ir_laws.facts.Members.{each_joined, each_turns}
use Rattle.pass_proofs.specs.ir_model.declared.instr.Instr.{Instr}
use Rattle.pass_proofs.specs.ir_parts.Contents.{instr_operands}
use Rattle.pass_proofs.specs.pass_addresses.Placing.{lies_outside, stays, without_promise_of}
use Rattle.pass_proofs.specs.pass_cells.Cells.{fetches_of}
use Rattle.pass_proofs.specs.pass_cells.Moves.{saved_values}
use Rattle.pass_proofs.specs.pass_fetch.Fetching.{fetches_of_all}
use Rattle.pass_frames_code.proofs.code.Idle.{each_idle, only_idle}
use Rattle.pass_frames_code.proofs.layers.Grown.{both_becomes, grown_one}
use Rattle.pass_frames_code.proofs.layers.Idle.{all_stay, both_idle, state_stays}
use Rattle.pass_frames_code.proofs.led.Front.{all_still}
use Rattle.pass_frames_code.specs.Code.{ArePartsLeft, address_state, addressed, code_of, load_name, loaded, loads, located, past_addressed, saved, slot_table, stores, unmarked_one, wheres, write_name}
use Rattle.pass_frames_code.specs.Layers.{IsIdle, Layer, before_of, both, each, here_of, only}
use Rattle.pass_frames_code.specs.Led.{IsStill}
use Rattle.pass_frames_code.specs.Operands.{IsLeftAlone}
use Rattle.pass_frames_code.specs.Passes.{fetching_at, unmarked_at}
use Rattle.pass_frames_code.specs.Places.{Framing, Placed, addressing_layer, celled_layer, copied_layer, copying_layer, loading_layer, marked, offsets, placed_layer, plan, unmarked, unmarked_layer, writing_layer}
use Rattle.pass_frames_code.specs.Stepping.{IsUnlocated, placed_front, placed_instr}
use Rattle.pass_proofs.specs.pass_front.Front.{is_no_alloca}
use Rattle.pass_proofs.specs.run_laws.changed.Changed.{Each}

-- ---- what stands in front of an instruction over two passes, where the second leaves what the first puts there

module _ {S T : Type 0} (L : Layer S) (M : Layer T) (s : S) (t : T) (i j : Instr) (here : L.here s i ≡ Some j)
    (idle : Each (IsIdle M) (L.before s i)) where
  both_before : (both L M).before (s, t) i ≡ L.before s i ++ M.before t j
  both_before =
      λ q. all_stay M (L.before s i) idle t q ++ before_of M (state_stays M (L.before s i) idle t q) (here q)

  both_here : (both L M).here (s, t) i ≡ M.here t j
  both_here = λ q. here_of M (state_stays M (L.before s i) idle t q) (here q)

-- a test puts nothing in front
pub none_before : (test : Instr → Bool) (o : Option Instr) → before_of (only test) tt o ≡ []
none_before test None = refl
none_before test (Some i) = refl

each_before : (turned : Instr → Instr) (o : Option Instr) → before_of (each turned) tt o ≡ []
each_before turned None = refl
each_before turned (Some i) = refl

still_no_alloca : (i : Instr) → IsStill i → is_no_alloca i ≡ true
still_no_alloca (Instr.Load r ty p align) s = refl
still_no_alloca (Instr.Gep r inbounds ty p indices) s = refl
still_no_alloca _ s = absurd s

-- ---- the instruction

module _ (x : Framing) (k : ℕ) (n : Placed) (i : Instr) (one_left : IsLeftAlone x (loaded x n i))
    (last_left : IsLeftAlone x (placed_instr x n i)) (u : IsUnlocated x n i) where
  abbrev one : Instr
  one = loaded x n i

  abbrev M : ℕ
  M = (address_state n).0

  abbrev A : Layer ℕ
  A = fetching_at (unmarked x) (slot_table x) k

  abbrev B : Layer (Unit {0})
  B = only (lies_outside (offsets x))

  abbrev last : Instr
  last = placed_instr x n i

  abbrev far : List Instr
  far = fetches_of_all (slot_table x) M (instr_operands one)

  saved_none : saved x n i ≡ []
  saved_none = ap (λ (row : List ℕ). saved_values (plan x).kept (write_name n) row) one_left.row

  unmarked_is : unmarked_one x (located x n i) ≡ one ∷ []
  unmarked_is =
      ap (unmarked_one x) u.located
      ∙ all_stay (unmarked_at (marked x)) (one ∷ []) (
        both_idle (only (stays (marked x))) (each without_promise_of) one
            (only_idle (stays (marked x)) one one_left.stays_it) (each_idle without_promise_of one one_left.same),
        tt,
      )
      (tt, tt)

  front_stays : (j : Instr) → IsStill j → IsIdle (only (lies_outside (offsets x))) j
  front_stays (Instr.Load r ty p align) s = only_idle (lies_outside (offsets x)) (Instr.Load r ty p align) refl
  front_stays (Instr.Gep r inbounds ty p indices) s =
      only_idle (lies_outside (offsets x)) (Instr.Gep r inbounds ty p indices) refl
  front_stays _ s = absurd s

  far_idle : Each (IsIdle B) far
  far_idle =
      each_turns IsStill (IsIdle B) front_stays far (all_still (slot_table x) M (instr_operands one))

  addressed_is : addressed x k (address_state n) (one ∷ []) ≡ far ++ (last ∷ [])
  addressed_is =
      grown_one (addressing_layer x k) (address_state n) one
      ∙ both_becomes A B M (address_state n).1 one
      ∙ all_stay B (far ++ (last ∷ []))
      (each_joined (IsIdle B) far (last ∷ []) far_idle
      (only_idle (lies_outside (offsets x)) last last_left.outside, tt))
      (address_state n).1

  shaped : (a b c e : List Instr) → a ++ ([] ++ ([] ++ ((b ++ c) ++ ([] ++ e)))) ≡ (a ++ b) ++ (c ++ e)
  shaped a b c e = simp append_assoc

  -- its operands are fetched, it stands there, and then what stores its result and its distance
  pub alone_is : code_of x k n i ≡ placed_front x n i ++ (last ∷ stores x n i)
  alone_is =
      (λ j. loads x n i
      ++ (addressed x k (address_state n) (saved_none j)
      ++ (u.wheres j
      ++ (addressed x k (past_addressed x k (address_state n) (saved_none j)) (unmarked_is j)
      ++ (addressed x k
      (past_addressed x k (past_addressed x k (address_state n) (saved_none j)) (unmarked_is j))
      (one_left.behind_it j) ++ stores x n i)))))
      ∙ ap (λ (xs : List Instr). loads x n i ++ ([] ++ ([] ++ (xs ++ ([] ++ stores x n i))))) addressed_is
      ∙ shaped (loads x n i) far (last ∷ []) (stores x n i)

  pub front_no_alloca : Each (λ (j : Instr). is_no_alloca j ≡ true) (placed_front x n i)
  front_no_alloca =
      each_turns IsStill (λ (j : Instr). is_no_alloca j ≡ true) still_no_alloca (placed_front x n i)
      (each_joined IsStill (loads x n i) far (all_still (fetches_of (plan x)) (load_name n) (instr_operands i))
      (all_still (slot_table x) M (instr_operands one)))

  pub alone_no_alloca : Each (λ (j : Instr). is_no_alloca j ≡ true) (stores x n i)
      → Each (λ (j : Instr). is_no_alloca j ≡ true) (placed_front x n i ++ (last ∷ stores x n i))
  alone_no_alloca rest =
      each_joined (λ (j : Instr). is_no_alloca j ≡ true) (placed_front x n i) (last ∷ stores x n i) front_no_alloca
      (last_left.no_alloca, rest)

  -- ---- what stands in front of it

  module _ (parts : ArePartsLeft x k n i) where
    celled_before : (celled_layer x k).before n.0.0.0 i ≡ loads x n i
    celled_before =
        both_before (loading_layer x k) (writing_layer x k) n.0.0.0.0 n.0.0.0.1 i one refl parts.written
        ∙ ap (λ (is : List Instr). loads x n i ++ is) saved_none ∙ append-nil (loads x n i)

    celled_here : (celled_layer x k).here n.0.0.0 i ≡ Some one
    celled_here = both_here (loading_layer x k) (writing_layer x k) n.0.0.0.0 n.0.0.0.1 i one refl parts.written

    copied_idle : Each (IsIdle (copying_layer x k)) ((celled_layer x k).before n.0.0.0 i)
    copied_idle =
        subst (Each (IsIdle (copying_layer x k))) (sym celled_before)
        (subst (Each (IsIdle (copying_layer x k)))
        (ap (λ (is : List Instr). loads x n i ++ is) saved_none ∙ append-nil (loads x n i)) parts.copied)

    copied_before : (copied_layer x k).before n.0.0 i ≡ loads x n i
    copied_before =
        both_before (celled_layer x k) (copying_layer x k) n.0.0.0 n.0.0.1 i one celled_here copied_idle
        ∙ (λ q. celled_before q ++ u.wheres q) ∙ append-nil (loads x n i)

    copied_here : (copied_layer x k).here n.0.0 i ≡ Some one
    copied_here =
        both_here (celled_layer x k) (copying_layer x k) n.0.0.0 n.0.0.1 i one celled_here copied_idle
        ∙ ap Some u.located

    all_loads : (loads x n i ++ saved x n i) ++ wheres x n i ≡ loads x n i
    all_loads = (λ q. (loads x n i ++ saved_none q) ++ u.wheres q)
        ∙ append-nil (loads x n i ++ []) ∙ append-nil (loads x n i)

    unmarked_idle : Each (IsIdle (unmarked_at (marked x))) ((copied_layer x k).before n.0.0 i)
    unmarked_idle =
        subst (Each (IsIdle (unmarked_at (marked x)))) (sym copied_before)
        (subst (Each (IsIdle (unmarked_at (marked x)))) all_loads parts.unmarked)

    marked_before : (unmarked_at (marked x)).before n.0.1 one ≡ []
    marked_before = each_before without_promise_of ((only (stays (marked x))).here n.0.1.0 one)

    marked_here : (unmarked_at (marked x)).here n.0.1 one ≡ Some one
    marked_here =
        ap (λ (q : Bool). here_of (each without_promise_of) n.0.1.1 (if q then Some one else None)) one_left.stays_it
        ∙ ap Some one_left.same

    unmarked_before : (unmarked_layer x k).before n.0 i ≡ loads x n i
    unmarked_before =
        both_before (copied_layer x k) (unmarked_at (marked x)) n.0.0 n.0.1 i one copied_here unmarked_idle
        ∙ (λ q. copied_before q ++ marked_before q) ∙ append-nil (loads x n i)

    unmarked_here : (unmarked_layer x k).here n.0 i ≡ Some one
    unmarked_here =
        both_here (copied_layer x k) (unmarked_at (marked x)) n.0.0 n.0.1 i one copied_here unmarked_idle
        ∙ marked_here

    addressed_idle : Each (IsIdle (addressing_layer x k)) ((unmarked_layer x k).before n.0 i)
    addressed_idle = subst (Each (IsIdle (addressing_layer x k))) (sym unmarked_before) parts.addressed_loads

    far_before : (addressing_layer x k).before n.1 one ≡ far
    far_before =
        (λ q. all_stay B far far_idle n.1.1 q ++ none_before (lies_outside (offsets x)) (Some last) q)
        ∙ append-nil far

    pub placed_before : (placed_layer x k).before n i ≡ placed_front x n i
    placed_before =
        both_before (unmarked_layer x k) (addressing_layer x k) n.0 n.1 i one unmarked_here addressed_idle
        ∙ (λ q. unmarked_before q ++ far_before q)
