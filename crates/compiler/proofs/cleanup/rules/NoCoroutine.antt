-- Without the calls of `coro.id` nothing of a coroutine is left (rule K1).
use Rattle.std.proofs.Common.{◌≡◌, ℕ, ◌+◌, Bool, true, false, List, [], ◌∷◌, ◌++◌, length, refl, sym, ap, ◌∙◌, subst, zero, suc, Option, Some, None}
use Rattle.std.proofs.lemmas.Bool.{and_parts}
use Rattle.std.proofs.lemmas.Option.{slice_get-map}
use Rattle.std.specs.List.{list_all}
use Rattle.std.specs.Prelude.{not, option_map, slice_get, ◌&&◌, ◌||◌}
use Rattle.ir_base.specs.declared.outcome.Place.{Place}
use Rattle.pass_cleanup.specs.Cleanup.{clean_function, clean_module, is_kept_callee, is_kept_instr}
use Rattle.pass_cleanup.specs.Free.{calls_id_alone, is_free}
use Rattle.compiler.proofs.cleanup.rules.Carried.{Carries, NoneIn, carried, head_in, parts_in}
use Rattle.compiler.specs.cleanup.rules.Clean.{NameNothingGone, NamesNothingGone, is_left}
use Rattle.pass_proofs.specs.ir_parts.Contents.{part_operands}
use Rattle.pass_proofs.specs.ir_parts.Parts.{Ending, Head, OfInstr, OfPhi, Part, Signature, block_parts, block_place, blocks_parts, function_place, instr_parts, instr_place, parts_of, phi_parts}
use Rattle.ir_model.specs.Table.{callee_named}
use Rattle.ir_model.specs.declared.instr.Instr.{Instr}
use Rattle.ir_model.specs.declared.instr.Phi.{Phi}
use Rattle.ir_model.specs.declared.module.Block.{Block}
use Rattle.ir_model.specs.declared.module.Function.{Function}
use Rattle.ir_model.specs.declared.module.Module.{Module}
use Rattle.ir_model.specs.declared.operand.Callee.{Callee}
use Rattle.ir_model.specs.declared.operand.Intrinsic.{Intrinsic}
use Rattle.ir_model.specs.declared.operand.Operand.{Operand}
use Rattle.pass_proofs.specs.rule_locals.Instrs.{on_instr}
use Rattle.pass_proofs.specs.rule_locals.Intrinsics.{has_coro, is_call_of, is_coro, is_coro_part, is_no_coro}
use Rattle.pass_proofs.specs.rule_laws.rules.plain_rules.Kept.{HasNoCoroutine}
use Rattle.pass_proofs.proofs.ir_laws.facts.Truth.{was_not}

-- ---- what is no coro intrinsic

no_coro_call : (c : Callee) → is_kept_callee c ≡ true → is_call_of is_coro c ≡ false
no_coro_call (Callee.Intrinsic Intrinsic.LifetimeStart) e = refl
no_coro_call (Callee.Intrinsic Intrinsic.LifetimeEnd) e = refl
no_coro_call (Callee.Intrinsic Intrinsic.MemcpyI64) e = refl
no_coro_call (Callee.Intrinsic Intrinsic.MemcpyI32) e = refl
no_coro_call (Callee.Intrinsic i) e = absurd (cc)
no_coro_call (Callee.Named n) e = refl
no_coro_call (Callee.Allocator a) e = refl
no_coro_call (Callee.Local v) e = refl

module _ (k : ℕ) (f : Function) where
  no_coro_operand : (x : Operand) → is_left f x ≡ true → is_no_coro x ≡ true
  no_coro_operand (Operand.Global n) e = ap not (no_coro_call (callee_named n) e)
  no_coro_operand (Operand.Local v) e = refl
  no_coro_operand (Operand.Number z) e = refl
  no_coro_operand Operand.True e = refl
  no_coro_operand Operand.False e = refl
  no_coro_operand Operand.Null e = refl
  no_coro_operand Operand.None e = refl
  no_coro_operand Operand.Poison e = refl

  no_coro_operands : (xs : List Operand) → list_all (is_left f) xs ≡ true → list_all is_no_coro xs ≡ true
  no_coro_operands [] e = refl
  no_coro_operands (x ∷ xs) e =
      let both = and_parts (is_left f x) (list_all (is_left f) xs) e in
      ap (λ (b : Bool). b && list_all is_no_coro xs) (no_coro_operand x both.0) ∙ no_coro_operands xs both.1

  out : (p : Place) (x : Part) → is_coro_part x ≡ false → list_all (is_left f) (part_operands x) ≡ true → has_coro p x ≡ false
  out p x e u = λ i. e i || not (no_coro_operands (part_operands x) u i)

  -- ---- calls

  -- a call of a coro intrinsic that isn't coro.id
  abbrev is_other : Place → Instr → Bool
  is_other p i = not (not (is_kept_instr i) || is_free i)

  instrs_fine : (block at : ℕ) (is : List Instr) → list_all (λ i. not (is_kept_instr i) || is_free i) is ≡ true → NoneIn (on_instr is_other) (instr_parts k block at is)
  instrs_fine block at [] e = refl
  instrs_fine block at (i ∷ is) e =
      let both = and_parts (not (is_kept_instr i) || is_free i) (list_all (λ i. not (is_kept_instr i) || is_free i) is) e in
      head_in (on_instr is_other) (instr_place k block at) (OfInstr i) (instr_parts k block (at + 1) is) (ap not both.0) (instrs_fine block (at + 1) is both.1)

  phis_fine : (block at : ℕ) (ps : List Phi) → NoneIn (on_instr is_other) (phi_parts k block at ps)
  phis_fine block at [] = refl
  phis_fine block at (p ∷ ps) = head_in (on_instr is_other) (instr_place k block at) (OfPhi p) (phi_parts k block (at + 1) ps) refl (phis_fine block (at + 1) ps)

  block_fine : (block : ℕ) (b : Block) → list_all (λ i. not (is_kept_instr i) || is_free i) b.instrs ≡ true → NoneIn (on_instr is_other) (block_parts k block b)
  unfolding block_parts
  block_fine block b e =
      let instrs : List (Place × Part) = instr_parts k block (length b.phis) b.instrs in
      let ending : List (Place × Part) = (instr_place k block (length b.phis + length b.instrs), Ending b.term) ∷ [] in
      head_in (on_instr is_other) (block_place k block) (Head b) (phi_parts k block 0 b.phis ++ (instrs ++ ending)) refl
      (parts_in (on_instr is_other) (phi_parts k block 0 b.phis) (instrs ++ ending) (phis_fine block 0 b.phis)
      (parts_in (on_instr is_other) instrs ending (instrs_fine block (length b.phis) b.instrs e) refl))

  blocks_fine : (block : ℕ) (bs : List Block) → list_all (λ b. list_all (λ i. not (is_kept_instr i) || is_free i) b.instrs) bs ≡ true → NoneIn (on_instr is_other) (blocks_parts k block bs)
  blocks_fine block [] e = refl
  blocks_fine block (b ∷ bs) e =
      let both = and_parts (list_all (λ i. not (is_kept_instr i) || is_free i) b.instrs) (list_all (λ c. list_all (λ i. not (is_kept_instr i) || is_free i) c.instrs) bs) e in
      parts_in (on_instr is_other) (block_parts k block b) (blocks_parts k (block + 1) bs) (block_fine block b both.0) (blocks_fine (block + 1) bs both.1)

  -- a call that stays is free
  free_call : (block at : ℕ) (i : Instr) → is_kept_instr i ≡ true → is_other (instr_place k block at) i ≡ false → is_free i ≡ true
  free_call block at i stays e = on (is_free i) (ap (λ (b : Bool). not (not b || is_free i)) (sym stays) ∙ e)
    where
      on : (b : Bool) → not b ≡ false → b ≡ true
      on true h = refl
      on false h = absurd (cc)

  no_coro_part : (i : Instr) → is_free i ≡ true → is_coro_part (OfInstr i) ≡ false
  no_coro_part (Instr.Call r must_tail ty callee args) e = no_coro_call callee e
  no_coro_part _ e = refl

  placed : f.coroutine ≡ false → Carries k f (on_instr is_other) has_coro
  placed ordinary =
      record {
        signature = λ e. ap (λ (b : Bool). b || false) ordinary;
        head = λ block b e. refl;
        phi = λ p x u e. out p (OfPhi x) refl u.0;
        instr = λ block at to i stays u e. out (instr_place k block to) (OfInstr i) (no_coro_part i (free_call block at i stays e)) u.0;
        ending = λ block at to t u e. out (instr_place k block to) (Ending t) refl u.0;
      }

  pub nothing_placed : f.coroutine ≡ false → list_all (λ b. list_all (λ i. not (is_kept_instr i) || is_free i) b.instrs) f.blocks ≡ true → NamesNothingGone k f → NoneIn has_coro (parts_of k (clean_function f))
  nothing_placed ordinary e u =
      carried k f (on_instr is_other) has_coro (placed ordinary) u
      (head_in (on_instr is_other) (function_place k) (Signature f) (blocks_parts k 0 f.blocks) refl (blocks_fine 0 f.blocks e))

-- ---- the module

each_of : {A : Type 0} (test : A → Bool) (xs : List A) → list_all test xs ≡ true → (k : ℕ) (x : A) → slice_get xs k ≡ Some x → test x ≡ true
each_of test [] e k x there = absurd (cc)
each_of test (y ∷ xs) e zero x there = let is_one : y ≡ x = cc in ap test (sym is_one) ∙ (and_parts (test y) (list_all test xs) e).0
each_of test (y ∷ xs) e (suc k) x there = each_of test xs (and_parts (test y) (list_all test xs) e).1 k x there

pub none_left : (m : Module) → list_all (λ f. not f.coroutine) m.functions ≡ true → calls_id_alone m ≡ true → NameNothingGone m → HasNoCoroutine (clean_module m)
none_left m ordinary e u k g there = on (slice_get m.functions k) refl (sym (slice_get-map clean_function m.functions k) ∙ there)
  where
    on : (o : Option Function) → slice_get m.functions k ≡ o → option_map clean_function o ≡ Some g → NoneIn has_coro (parts_of k g)
    on None h d = absurd (cc)
    on (Some f) h d =
        let same : clean_function f ≡ g = cc in
        subst (λ (x : Function). NoneIn has_coro (parts_of k x)) same
        (nothing_placed k f (was_not f.coroutine (each_of (λ (x : Function). not x.coroutine) m.functions ordinary k f h)) (each_of (λ (x : Function). list_all (λ b. list_all (λ i. not (is_kept_instr i) || is_free i) b.instrs) x.blocks) m.functions e k f h) (u k f h))
