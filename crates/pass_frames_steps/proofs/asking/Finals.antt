-- Suspends are final in the framed form where they are in the coroutine.
use Rattle.std.proofs.Common.{◌≡◌, ◌≢◌, ◌+◌, ◌==◌, ◌∷◌, ◌++◌, ◌∙◌, [], if◌then◌else◌, ◌||◌, Bool, List, None, Option, Some, ap, arith, false, length, map, refl, subst, suc, sym, take, true, zero, ℕ}
use Rattle.std.proofs.lemmas.Bool.{eq-eqb, eqb-true}
use Rattle.std.specs.List.{list_any}
use Rattle.std.specs.Prelude.{filter, option_to_list, slice_get, unwrap_or}
use Rattle.pass_frames_code.proofs.ir_laws.facts.Members.{any_same, at_each}
use Rattle.pass_frames_code.proofs.ir_laws.paths.alike_functions.Lists.{each_where}
use Rattle.pass_frames_code.specs.ir_model.declared.instr.Instr.{Instr}
use Rattle.pass_frames_code.specs.ir_model.declared.module.Block.{Block}
use Rattle.pass_frames_code.specs.ir_model.declared.module.Function.{Function}
use Rattle.pass_frames_code.specs.ir_model.declared.operand.Arg.{Arg}
use Rattle.pass_frames_code.specs.ir_model.declared.operand.Callee.{Callee}
use Rattle.pass_frames_code.specs.ir_model.declared.operand.Intrinsic.{Intrinsic}
use Rattle.pass_frames_code.specs.ir_model.declared.operand.Operand.{Operand}
use Rattle.pass_frames_code.specs.ir_parts.Contents.{callee_operands}
use Rattle.pass_frames_code.specs.ir_paths.Windows.{call_operand, instr_at, instr_in, is_call_of, operand_at, points_where}
use Rattle.pass_frames_code.specs.ir_paths.declared.point.Point.{Point}
use Rattle.pass_frames_code.specs.pass_addresses.Placing.{lies_outside, stays, without_promise_of}
use Rattle.pass_frames_code.specs.pass_cells.Cells.{fetches_of}
use Rattle.pass_frames_code.specs.pass_copies.BeginCopies.{is_fetched}
use Rattle.pass_frames_code.specs.pass_fetch.Fetching.{fetch_of, fetched_args, fetched_operand, next_after, next_after_all, operand_by}
use Rattle.pass_frames_code.specs.pass_fetch.Instrs.{with_fetched}
use Rattle.pass_frames_code.specs.pass_fetch.declared.fetch.Fetch.{Fetch}
use Rattle.pass_frames_code.proofs.code.Framed.{entry_made, others_made}
use Rattle.pass_frames_code.proofs.layers.Grown.{both_passed}
use Rattle.pass_frames_code.proofs.layers.Standing.{one_stands}
use Rattle.pass_frames_code.proofs.stepping.Codes.{block_there, led_passed}
use Rattle.pass_frames_code.proofs.tests.Points.{calls_moved}
use Rattle.pass_frames_code.specs.Code.{slot_table}
use Rattle.pass_frames_code.specs.Layers.{IsMadeBy, Layer, before_of, both, each, here_of, met, only, own_place_in, place_in, state_at, woven}
use Rattle.pass_frames_code.specs.Passes.{IsBlockMade, allocas_led, block_at, fetching_at, no_block, unmarked_at}
use Rattle.pass_frames_code.specs.Places.{Framing, Placed, addressing_layer, celled_layer, copied_layer, copies, copying_layer, edged, entry_layer, framed, instrs_at, loading_layer, marked, named, offsets, own_place, own_place_by, placed_layer, plan, unmarked, unmarked_layer, writing_layer}
use Rattle.pass_frames_code.specs.Related.{IsSuspendNumber}
use Rattle.pass_frames_code.specs.Stepping.{state_in}
use Rattle.pass_frames_code.specs.pass_front.Front.{is_alloca, is_no_alloca}
use Rattle.pass_frames_code.proofs.pass_proofs.cells.crossing.Calls.{same_call}
use Rattle.pass_frames_code.specs.run_laws.access.Lines.{StandAt}
use Rattle.pass_frames_code.specs.run_laws.changed.Changed.{Each}
use Rattle.pass_frames_code.specs.run_source_tables.Given.{has_final, is_final, is_final_call, is_true}
use Rattle.pass_frames_code.specs.run_step.Step.{AtInstr, fetch, fetch_in, fetch_or}

-- ---- instructions in whose places a layer leaves ones of which the same is said

abbrev pub IsKeptIn : (Instr → Type 0) → (Instr → Bool) → Instr → Option Instr → Type 0
IsKeptIn C says i o = (j : Instr) × (o ≡ Some j) × C j × (says j ≡ says i)

pub record KeepsHere {S : Type 0} (C : Instr → Type 0) (says : Instr → Bool) (L : Layer S) : Type 0 where
  pub here : (s : S) (i : Instr) → C i → IsKeptIn C says i (L.here s i)

pub both_here : {S T : Type 0} (C : Instr → Type 0) (says : Instr → Bool) (L : Layer S) (M : Layer T)
    → KeepsHere C says L → KeepsHere C says M → KeepsHere C says (both L M)
both_here C says L M one other = record {
  here = λ s i c.
      let j = one.here s.0 i c in
      let k = other.here (met L M s.0 s.1 i) j.0 j.2 in
      (k.0, ap (here_of M (met L M s.0 s.1 i)) j.1 ∙ k.1, k.2, k.3 ∙ j.3);
}

-- ---- what stands in the place of an instruction

-- behind some of a line stands the next one
stands_behind : (f : Function) (k a : ℕ) (xs : List Instr) (j : Instr) (more : List Instr)
    → StandAt f k a (xs ++ (j ∷ more)) → fetch f k (a + length xs) ≡ AtInstr j
stands_behind f k a [] j more h = let e : a + 0 ≡ a = omega arith in ap (fetch f k) e ∙ h.0
stands_behind f k a (y ∷ xs) j more h =
    let e : a + suc (length xs) ≡ (a + 1) + length xs = omega arith in
    ap (fetch f k) e ∙ stands_behind f k (a + 1) xs j more h.1

fetched_there : (f : Function) (k a : ℕ) (j : Instr) → fetch f k a ≡ AtInstr j
    → instr_at f (record { block = k; at = a }) ≡ Some j
fetched_there f k a j e = on (slice_get f.blocks k) refl e
  where
    by_instr : (b : Block) (o : Option Instr) → fetch_or o (a == length b.instrs) b.term ≡ AtInstr j → o ≡ Some j
    by_instr b None h = no_instr (a == length b.instrs) h
      where
        no_instr : (last : Bool) → fetch_or None last b.term ≡ AtInstr j → None ≡ Some j
        no_instr true h = absurd (cc)
        no_instr false h = absurd (cc)
    by_instr b (Some i) h = ap Some (same h)
      where
        same : AtInstr i ≡ AtInstr j → i ≡ j
        same d = cc

    on : (o : Option Block) → slice_get f.blocks k ≡ o → fetch_in o a ≡ AtInstr j
        → instr_in (slice_get f.blocks k) a ≡ Some j
    on None d h = absurd (cc)
    on (Some b) d h = ap (λ (o : Option Block). instr_in o a) d ∙ by_instr b (slice_get b.instrs a) h

module _ {S : Type 0} (L : Layer S) (f g : Function) (k at : ℕ) (i j : Instr) (made : IsBlockMade L f g k)
    (there : slice_get (block_at f k).instrs at ≡ Some i)
    (here : L.here (state_at L (block_at f k).instrs at) i ≡ Some j) where
  abbrev is : List Instr
  is = (block_at f k).instrs

  got : (c : Block) × (slice_get g.blocks k ≡ Some c) × IsMadeBy L (block_at f k) c
  got = made (block_at f k) (block_there f k at i there)

  layer_there : instr_at g (record { block = k; at = own_place_in L is at }) ≡ Some j
  layer_there =
      ap (λ (o : Option Instr). instr_at g (record {
        block = k;
        at = place_in L is at + length (before_of L (state_at L is at) o);
      })) there
      ∙ fetched_there g k (place_in L is at + length (L.before (state_at L is at) i)) j
      (stands_behind g k (place_in L is at) (L.before (state_at L is at) i) j (L.behind (state_at L is at) i)
      (subst (λ (o : Option Instr). StandAt g k (place_in L is at)
      (L.before (state_at L is at) i ++ (option_to_list o ++ L.behind (state_at L is at) i))) here
      (one_stands L g k at (block_at f k) got.0 i got.2 got.1 there)))

led_state : {S : Type 0} (L : Layer S) (is : List Instr) (at : ℕ)
    → state_at (allocas_led L is) is at ≡ (state_at L is at, tt)
led_state L is at =
    led_passed (filter is_alloca (woven L is)) (both L (only is_no_alloca)) (allocas_led L is).start (take at is)
    ∙ both_passed L (only is_no_alloca) L.start (allocas_led L is).start.1 (take at is)

module _ (x : Framing) (k at : ℕ) (i j : Instr) (there : slice_get (instrs_at x k) at ≡ Some i)
    (here : (placed_layer x k).here (state_in x k at) i ≡ Some j) (plain : is_no_alloca j ≡ true) where
  abbrev At : Bool → Point
  At e = record { block = k; at = own_place_by x (record { block = k; at = at }) e }

  at_entry_is : k ≡ 0 → instr_at (framed x) (At true) ≡ Some j
  at_entry_is z =
      subst (λ (n : ℕ). instr_at (framed x) (record {
        block = n;
        at = own_place_in (entry_layer x) (instrs_at x 0) at;
      }) ≡ Some j) (sym z)
      (layer_there (entry_layer x) (edged x) (framed x) 0 at i j (entry_made x) there_0 led_is)
    where
      there_0 : slice_get (instrs_at x 0) at ≡ Some i
      there_0 = subst (λ (n : ℕ). slice_get (instrs_at x n) at ≡ Some i) z there

      here_0 : (placed_layer x 0).here (state_in x 0 at) i ≡ Some j
      here_0 = subst (λ (n : ℕ). (placed_layer x n).here (state_in x n at) i ≡ Some j) z here

      led_is : (entry_layer x).here (state_at (entry_layer x) (instrs_at x 0) at) i ≡ Some j
      led_is =
          ap (λ (s : Placed × Unit {0}). (entry_layer x).here s i)
          (led_state (placed_layer x 0) (instrs_at x 0) at)
          ∙ ap (here_of (only is_no_alloca) tt) here_0
          ∙ ap (λ (b : Bool). if b then Some j else None) plain

  later_is : k ≢ 0 → instr_at (framed x) (At false) ≡ Some j
  later_is n = layer_there (placed_layer x k) (edged x) (framed x) k at i j (others_made x k n) there here

  pub own_there : instr_at (framed x) (own_place x (record { block = k; at = at })) ≡ Some j
  own_there = on (k == 0) refl
    where
      on : (e : Bool) → (k == 0) ≡ e → instr_at (framed x) (At (k == 0)) ≡ Some j
      on true e = subst (λ (t : Bool). instr_at (framed x) (At t) ≡ Some j) (sym e) (at_entry_is (eqb-true k 0 e))
      on false e =
          subst (λ (t : Bool). instr_at (framed x) (At t) ≡ Some j) (sym e)
          (later_is (λ z. let no : true ≡ false = sym (eq-eqb k 0 z) ∙ e in absurd (cc)))

-- ---- suspends

abbrev pub IsSuspendCall : Instr → Type 0
IsSuspendCall i = is_call_of Intrinsic.CoroSuspend i ≡ true

abbrev pub says_final : Instr → Bool
says_final i = is_true (call_operand i 1)

-- what is fetched is no literal, and a literal isn't fetched
literal_same : (t : List (Option Fetch)) (n : ℕ) (a : Operand) → is_true (fetched_operand t n a) ≡ is_true a
literal_same t n (Operand.Local v) = on (fetch_of t (Operand.Local v))
  where
    on : (o : Option Fetch) → is_true (operand_by n o (Operand.Local v)) ≡ false
    on None = refl
    on (Some f) = refl
literal_same t n (Operand.Global name) = refl
literal_same t n (Operand.Number z) = refl
literal_same t n Operand.True = refl
literal_same t n Operand.False = refl
literal_same t n Operand.Null = refl
literal_same t n Operand.None = refl
literal_same t n Operand.Poison = refl

pub args_same : (t : List (Option Fetch)) (n at : ℕ) (args : List Arg)
    → is_true (operand_at (fetched_args t n args) at) ≡ is_true (operand_at args at)
args_same t n at [] = refl
args_same t n zero (a ∷ args) = literal_same t n a.value
args_same t n (suc at) (a ∷ args) = args_same t (next_after t n a.value) at args

says_same : (t : List (Option Fetch)) (n : ℕ) (i : Instr) → says_final (with_fetched t n i) ≡ says_final i
says_same t n (Instr.Call r must_tail ty callee args) =
    args_same t (next_after_all t n (callee_operands callee)) 1 args
says_same t n (Instr.Binary r op flags ty a b) = refl
says_same t n (Instr.Icmp r pred ty a b) = refl
says_same t n (Instr.Select r c a b) = refl
says_same t n (Instr.Cast r op nneg a to) = refl
says_same t n (Instr.Alloca r ty align) = refl
says_same t n (Instr.Load r ty p align) = refl
says_same t n (Instr.Store a p align) = refl
says_same t n (Instr.Gep r inbounds ty base indices) = refl

abbrev Keeps : {S : Type 0} → Layer S → Type 0
Keeps L = KeepsHere IsSuspendCall says_final L

fetching_here : (f : Function) (t : List (Option Fetch)) (k : ℕ) → Keeps (fetching_at f t k)
fetching_here f t k = record {
  here = λ n i c. (with_fetched t n i, refl, same_call t n Intrinsic.CoroSuspend i ∙ c, says_same t n i);
}

passing : (test : Instr → Bool) → ((i : Instr) → IsSuspendCall i → test i ≡ true) → Keeps (only test)
passing test h = record {
  here = λ s i c. (i, ap (λ (b : Bool). if b then Some i else None) (h i c), c, refl);
}

stay : (marked : List Bool) (i : Instr) → IsSuspendCall i → stays marked i ≡ true
stay marked (Instr.Call r must_tail ty (Callee.Intrinsic Intrinsic.LifetimeStart) args) e = absurd (cc)
stay marked (Instr.Call r must_tail ty (Callee.Intrinsic Intrinsic.LifetimeEnd) args) e = absurd (cc)
stay marked _ e = refl

same_promise : (i : Instr) → IsSuspendCall i → without_promise_of i ≡ i
same_promise (Instr.Call r must_tail ty (Callee.Intrinsic Intrinsic.CoroId) args) e = absurd (cc)
same_promise _ e = refl

lies : (offsets : List (Option ℕ)) (i : Instr) → IsSuspendCall i → lies_outside offsets i ≡ true
lies offsets (Instr.Alloca r ty align) e = absurd (cc)
lies offsets _ e = refl

no_alloca : (i : Instr) → IsSuspendCall i → is_no_alloca i ≡ true
no_alloca (Instr.Alloca r ty align) e = absurd (cc)
no_alloca _ e = refl

module _ (x : Framing) (k : ℕ) where
  writing_here : Keeps (writing_layer x k)
  writing_here = record { here = λ n i c. (i, refl, c, refl) }

  copying_here : Keeps (copying_layer x k)
  copying_here = record { here = λ s i c. by_flag (is_fetched s.0 i) s.1 i c }
    where
      by_flag : (b : Bool) (n : ℕ) (i : Instr) → IsSuspendCall i
          → IsKeptIn IsSuspendCall says_final i (Some (if b then with_fetched (copies x).fetches n i else i))
      by_flag true n i c = (
        with_fetched (copies x).fetches n i,
        refl,
        same_call (copies x).fetches n Intrinsic.CoroSuspend i ∙ c,
        says_same (copies x).fetches n i,
      )
      by_flag false n i c = (i, refl, c, refl)

  promise_here : Keeps (each without_promise_of)
  promise_here = record {
    here = λ s i c. (
      without_promise_of i,
      refl,
      ap (is_call_of Intrinsic.CoroSuspend) (same_promise i c) ∙ c,
      ap says_final (same_promise i c),
    );
  }

  placed_here : Keeps (placed_layer x k)
  placed_here =
      both_here IsSuspendCall says_final (unmarked_layer x k) (addressing_layer x k)
      (both_here IsSuspendCall says_final (copied_layer x k) (unmarked_at (marked x))
      (both_here IsSuspendCall says_final (celled_layer x k) (copying_layer x k)
      (both_here IsSuspendCall says_final (loading_layer x k) (writing_layer x k)
      (fetching_here (named x) (fetches_of (plan x)) k) writing_here) copying_here)
      (both_here IsSuspendCall says_final (only (stays (marked x))) (each without_promise_of)
      (passing (stays (marked x)) (stay (marked x))) promise_here))
      (both_here IsSuspendCall says_final (fetching_at (unmarked x) (slot_table x) k)
      (only (lies_outside (offsets x))) (fetching_here (unmarked x) (slot_table x) k)
      (passing (lies_outside (offsets x)) (lies (offsets x))))

mapped_any : {A B : Type 0} (f : A → B) (p : B → Bool) (q : A → Bool) → ((x : A) → p (f x) ≡ q x) → (xs : List A)
    → list_any p (map f xs) ≡ list_any q xs
mapped_any f p q h [] = refl
mapped_any f p q h (x ∷ xs) =
    ap (λ (b : Bool). b || list_any p (map f xs)) (h x) ∙ ap (λ (b : Bool). q x || b) (mapped_any f p q h xs)

module _ (x : Framing) where
  one_final : (p : Point) (i : Instr) → instr_at (edged x) p ≡ Some i → IsSuspendCall i
      → is_final (framed x) (own_place x p) ≡ is_final (edged x) p
  one_final p i e c =
      let j = (placed_here x p.block).here (state_in x p.block p.at) i c in
      ap is_final_call (own_there x p.block p.at i j.0 (in_block p.block p.at i e) j.1 (no_alloca j.0 j.2))
      ∙ j.3 ∙ sym (ap is_final_call e)
    where
      in_block : (k at : ℕ) (i : Instr) → instr_in (slice_get (edged x).blocks k) at ≡ Some i
          → slice_get (instrs_at x k) at ≡ Some i
      in_block k at i h = on (slice_get (edged x).blocks k) refl h
        where
          on : (o : Option Block) → slice_get (edged x).blocks k ≡ o → instr_in o at ≡ Some i
              → slice_get (unwrap_or (slice_get (edged x).blocks k) no_block).instrs at ≡ Some i
          on None d h = absurd (cc)
          on (Some b) d h = ap (λ (o : Option Block). slice_get (unwrap_or o no_block).instrs at) d ∙ h

  all_final : Each (λ (p : Point). is_final (framed x) (own_place x p) ≡ is_final (edged x) p)
      (points_where (is_call_of Intrinsic.CoroSuspend) (edged x))
  all_final =
      each_where (λ (p : Point). is_final (framed x) (own_place x p) ≡ is_final (edged x) p)
      (is_call_of Intrinsic.CoroSuspend) (edged x) one_final

  pub final_same : (n : ℕ) (p : Point) → IsSuspendNumber x n p
      → is_final (framed x) (own_place x p) ≡ is_final (edged x) p
  final_same n p e =
      at_each (λ (q : Point). is_final (framed x) (own_place x q) ≡ is_final (edged x) q)
      (points_where (is_call_of Intrinsic.CoroSuspend) (edged x)) n p all_final e

  pub has_final_same : has_final (framed x) ≡ has_final (edged x)
  has_final_same =
      ap (list_any (is_final (framed x))) (calls_moved x Intrinsic.CoroSuspend refl)
      ∙ mapped_any (own_place x) (is_final (framed x)) (λ (p : Point). is_final (framed x) (own_place x p))
      (λ p. refl) (points_where (is_call_of Intrinsic.CoroSuspend) (edged x))
      ∙ any_same (λ (p : Point). is_final (framed x) (own_place x p) ≡ is_final (edged x) p)
      (λ (p : Point). is_final (framed x) (own_place x p)) (is_final (edged x)) (λ p e. e)
      (points_where (is_call_of Intrinsic.CoroSuspend) (edged x)) all_final
