-- Allocas stand in the entry block, and nothing else gives their names. Markers mark allocas that stand before them.
use Rattle.std.proofs.Common.{◌≡◌, ◌≤◌, ◌<◌, ◌⊎◌, inl, inr, ⊎_elim, ℕ, zero, suc, ◌+◌, Bool, true, false, List, [], ◌∷◌, length, map, refl, sym, ap, ◌∙◌, subst, arith}
use Rattle.std.proofs.lemmas.Bool.{false≢true}
use Rattle.std.specs.List.{list_any}
use Rattle.std.specs.Prelude.{None, Option, Some, not, slice_get, ◌&&◌, ◌||◌, ◌==◌}
use Rattle.pass_proofs.specs.flow_solver.Paths.{IsListed}
use Rattle.pass_proofs.proofs.ir_laws.facts.Lists.{phi_names}
use Rattle.pass_proofs.proofs.ir_laws.facts.Truth.{equal_numbers, holds, itself}
use Rattle.pass_proofs.proofs.ir_laws.paths.renamed.Uses.{stands_in}
use Rattle.pass_proofs.proofs.ir_laws.paths.uses.Paths.{place_of}
use Rattle.pass_proofs.specs.ir_model.Names.{function_at, is_local}
use Rattle.pass_proofs.specs.ir_model.Ty.{Ty}
use Rattle.pass_proofs.specs.ir_model.declared.instr.Instr.{Instr}
use Rattle.pass_proofs.specs.ir_model.declared.instr.Phi.{Phi}
use Rattle.pass_proofs.specs.ir_model.declared.module.Block.{Block}
use Rattle.pass_proofs.specs.ir_model.declared.module.Function.{Function}
use Rattle.pass_proofs.specs.ir_model.declared.module.Module.{Module}
use Rattle.pass_proofs.specs.ir_model.declared.operand.Arg.{Arg}
use Rattle.pass_proofs.specs.ir_model.declared.operand.Callee.{Callee}
use Rattle.pass_proofs.specs.ir_model.declared.operand.Intrinsic.{Intrinsic}
use Rattle.pass_proofs.specs.ir_model.declared.operand.Operand.{Operand}
use Rattle.pass_proofs.specs.ir_parts.Contents.{arg_operands, instr_operands}
use Rattle.pass_proofs.specs.ir_paths.declared.point.Point.{Point}
use Rattle.pass_proofs.proofs.pass_kept_proof.Read.{made_phi}
use Rattle.pass_proofs.specs.ir_laws.facts.renamed.Regular.{is_result}
use Rattle.pass_proofs.specs.pass_kept_proof.Needed.{phis_give}
use Rattle.pass_split_proof.proofs.code.Allocas.{by_instrs}
use Rattle.pass_split_proof.proofs.ready.Begins.{phi_listed}
use Rattle.pass_split_proof.proofs.ready.Rules.{at_instr, function_of_instr}
use Rattle.pass_split_proof.specs.simulation.Premises.{AreAllocasAlone, IsEntryAlloca, MarksAlloca}
use Rattle.pass_proofs.proofs.rule_laws.rules.renamed.Uses.{instr_use, none_undefined, of_block, three_kinds}
use Rattle.pass_proofs.proofs.rule_laws.rules.source_rules.Locals.{no_param, no_phi, result_below, same_result}
use Rattle.pass_proofs.proofs.rule_laws.rules.source_rules.Slots.{sized_alloca}
use Rattle.pass_proofs.proofs.rule_laws.rules.sources.Places.{instr_there, point}
use Rattle.pass_proofs.specs.rule_laws.rules.function_rules.Kept.{KeepsFunctionRulesAt}
use Rattle.pass_proofs.specs.rule_locals.Entries.{allocates_late}
use Rattle.pass_proofs.specs.rule_locals.Instrs.{on_instr}
use Rattle.pass_proofs.specs.rule_locals.Markers.{is_marker, marks, marks_otherwise, marks_size, marks_slot, slot_size}
use Rattle.pass_proofs.specs.rule_names.declared.stage.Stage.{Stage}
use Rattle.pass_proofs.specs.rule_uses.Undefined.{Entry, IsUndefined}
use Rattle.pass_proofs.specs.rule_uses.Uses.{Use, phi_values, uses_of}
use Rattle.pass_proofs.specs.run_laws.changed.Changed.{result_of}
use Rattle.pass_proofs.specs.run_step.Step.{AtInstr, fetch, is_lifetime, phis_of}

-- ---- names among parameters and phis

phi_any : (v : ℕ) (ps : List Phi) → list_any (λ p. p.result == v) ps ≡ true → IsListed v (phi_names ps)
phi_any v [] e = absurd (false≢true e)
phi_any v (p ∷ ps) e = on (p.result == v) refl e (phi_any v ps)
  where
    on : (b : Bool) → (p.result == v) ≡ b → (b || list_any (λ q. q.result == v) ps) ≡ true
        → (list_any (λ q. q.result == v) ps ≡ true → IsListed v (phi_names ps)) → IsListed v (phi_names (p ∷ ps))
    on true h k more = inl (sym (equal_numbers p.result v h))
    on false h k more = inr (more k)

not_true : (b : Bool) → (b ≡ true → ⊥) → b ≡ false
not_true true h = absurd (h refl)
not_true false h = refl

-- ---- markers

-- the two arguments of a marker, the second of which is an alloca (K13)
record AreMarked (sizes : ℕ → Option ℕ) (args : List Arg) : Type 0 where
  size : Arg
  pointer : Arg
  name : ℕ
  bytes : ℕ
  are : args ≡ size ∷ pointer ∷ []
  is : pointer.value ≡ Operand.Local name
  sized : sizes name ≡ Some bytes

sized_by : (sizes : ℕ → Option ℕ) (n : Operand) (v : ℕ) → marks_size n (sizes v) ≡ true
    → (bytes : ℕ) × (sizes v ≡ Some bytes)
sized_by sizes n v e = on (sizes v) refl e
  where
    on : (o : Option ℕ) → sizes v ≡ o → marks_size n o ≡ true → (bytes : ℕ) × (sizes v ≡ Some bytes)
    on None d h = absurd (false≢true h)
    on (Some bytes) d h = (bytes, d)

slot_by : (sizes : ℕ → Option ℕ) (a b : Arg) (x : Operand) → b.value ≡ x → marks_slot sizes a.value x ≡ true
    → AreMarked sizes (a ∷ b ∷ [])
slot_by sizes a b (Operand.Local v) is e =
    let y = sized_by sizes a.value v e in
    record { size = a; pointer = b; name = v; bytes = y.0; are = refl; is = is; sized = y.1 }
slot_by sizes a b (Operand.Global n) is e = absurd (false≢true e)
slot_by sizes a b (Operand.Number z) is e = absurd (false≢true e)
slot_by sizes a b Operand.True is e = absurd (false≢true e)
slot_by sizes a b Operand.False is e = absurd (false≢true e)
slot_by sizes a b Operand.Null is e = absurd (false≢true e)
slot_by sizes a b Operand.None is e = absurd (false≢true e)
slot_by sizes a b Operand.Poison is e = absurd (false≢true e)

marked_by : (sizes : ℕ → Option ℕ) (args : List Arg) → marks sizes args ≡ true → AreMarked sizes args
marked_by sizes [] e = absurd (false≢true e)
marked_by sizes (a ∷ []) e = absurd (false≢true e)
marked_by sizes (a ∷ b ∷ []) e = slot_by sizes a b b.value refl e
marked_by sizes (a ∷ b ∷ c ∷ args) e = absurd (false≢true e)

lifetime_marks : (callee : Callee) → is_lifetime callee ≡ true → is_marker callee ≡ true
lifetime_marks (Callee.Intrinsic Intrinsic.LifetimeStart) e = refl
lifetime_marks (Callee.Intrinsic Intrinsic.LifetimeEnd) e = refl
lifetime_marks _ e = absurd (false≢true e)

-- the operands are the values of its arguments
lifetime_reads : (v : ℕ) (result : Option ℕ) (must_tail : Bool) (ty : Option Ty) (callee : Callee) (args : List Arg)
    → is_lifetime callee ≡ true → list_any (is_local v) (arg_operands args) ≡ true
    → list_any (is_local v) (instr_operands (Instr.Call result must_tail ty callee args)) ≡ true
lifetime_reads v result must_tail ty (Callee.Intrinsic Intrinsic.LifetimeStart) args e h = h
lifetime_reads v result must_tail ty (Callee.Intrinsic Intrinsic.LifetimeEnd) args e h = h
lifetime_reads v result must_tail ty _ args e h = absurd (false≢true e)

second_local : (v : ℕ) (a b : Arg) → b.value ≡ Operand.Local v
    → list_any (is_local v) (a.value ∷ b.value ∷ []) ≡ true
second_local v a b e = ap (λ (t : Bool). is_local v a.value || (t || false)) (ap (is_local v) e ∙ itself v)
    ∙ last (is_local v a.value)
  where
    last : (t : Bool) → (t || true) ≡ true
    last true = refl
    last false = refl

-- ---- of a function

-- a use that no path reaches without a definition
abbrev IsDefined : Function → Use → Type 0
IsDefined f u = IsUndefined f u → ⊥

module _ (m : Module) (k : ℕ) (f : Function) (rules : KeepsFunctionRulesAt Stage.Plain m k f) where
  in_entry : (block at name align : ℕ) (ty : Ty) → fetch f block at ≡ AtInstr (Instr.Alloca name ty align) → block ≡ 0
  in_entry block at name align ty here = on (block == 0) refl
      (at_instr k f (on_instr allocates_late) rules.local.allocas block at (Instr.Alloca name ty align) here)
    where
      on : (b : Bool) → (block == 0) ≡ b → not b ≡ false → block ≡ 0
      on true e h = equal_numbers block 0 e
      on false e h = absurd (false≢true (sym h))

  one_place : (at name : ℕ) → IsEntryAlloca f at name → (block other : ℕ) (i : Instr) → fetch f block other ≡ AtInstr i
      → result_of i ≡ Some name → (block ≡ 0) × (other ≡ at)
  one_place at name x block other i here gives =
      let same : point block other ≡ point 0 at = same_result k f rules.definitions (point block other) (point 0 at) i
      (Instr.Alloca name x.ty x.align) name (instr_there f block other i here)
      (instr_there f 0 at (Instr.Alloca name x.ty x.align) x.there) gives refl in
      (ap (λ (p : Point). p.block) same, ap (λ (p : Point). p.at) same)

  not_by_phi : (at name : ℕ) → IsEntryAlloca f at name → (b : Block) (p : Phi) → IsListed b f.blocks
      → IsListed p b.phis
      → p.result ≡ name → ⊥
  not_by_phi at name x b p l n e =
      let q = place_of f.blocks b l in
      no_phi k f rules.definitions q.0 b (point 0 at) (Instr.Alloca name x.ty x.align) name q.1
      (subst (λ (v : ℕ). IsListed v (phi_names b.phis)) e (phi_listed b.phis p n))
      (instr_there f 0 at (Instr.Alloca name x.ty x.align) x.there) refl

  -- up to an alloca no path has made its name
  module _ (made name : ℕ) (x : IsEntryAlloca f made name) where
    no_own_phi : phis_give name (phis_of (slice_get f.blocks 0)) ≡ false
    no_own_phi = on (slice_get f.blocks 0) refl
      where
        on : (o : Option Block) → slice_get f.blocks 0 ≡ o → phis_give name (phis_of o) ≡ false
        on None e = refl
        on (Some b) e = not_true (phis_give name b.phis) (λ h. no_phi k f rules.definitions 0 b (point 0 made)
            (Instr.Alloca name x.ty x.align) name e (phi_any name b.phis h)
            (instr_there f 0 made (Instr.Alloca name x.ty x.align) x.there) refl)

    phis_unmade : (b : Block) → slice_get f.blocks 0 ≡ Some b → IsListed name (phi_values b) → ⊥
    phis_unmade b got h = ⊎_elim (λ none. none) (λ g. false≢true (sym no_own_phi
        ∙ ap (λ (o : Option Block). phis_give name (phis_of o)) got ∙ g)) (made_phi name b.phis [] h)

    -- none of the instructions up to it makes its name
    unmade : (b : Block) → slice_get f.blocks 0 ≡ Some b → (j : ℕ) (y : Instr) → j < made
        → slice_get b.instrs j ≡ Some y → is_result name (result_of y) ≡ false
    unmade b got j y lt there = not_true (is_result name (result_of y)) (λ e. apart
        (one_place made name x 0 j y (by_instrs f 0 j b y got there) (makes (result_of y) e)).1)
      where
        apart : j ≡ made → ⊥
        apart e = omega (arith, e, lt)

        makes : (o : Option ℕ) → is_result name o ≡ true → o ≡ Some name
        makes None e = absurd (cc)
        makes (Some n) e = ap Some (equal_numbers n name e)

    -- so before it nothing reads it (F2)
    before : (at : ℕ) (i : Instr) → fetch f 0 at ≡ AtInstr i → list_any (is_local name) (instr_operands i) ≡ true
        → at ≤ made → ⊥
    before at i here reads low =
        let y = stands_in f (point 0 at) i (instr_there f 0 at i here) in
        let u = instr_use (IsDefined f) name k 0 (length y.block.phis) (phi_values y.block) y.block.instrs at i
        (three_kinds (IsDefined f) f k 0 y.block (of_block (IsDefined f) f k 0 y.block
        (none_undefined f (uses_of k f) None rules.uses refl) y.got)).instrs y.stands reads (phis_unmade y.block y.got)
        (λ j z lt there. unmade y.block y.got j z (less j lt) there) in
        u.listed (record {
          reaches = Entry;
          not_before = u.unmade;
          no_param = λ l. no_param k f rules.definitions (point 0 made) (Instr.Alloca name x.ty x.align) name
              (instr_there f 0 made (Instr.Alloca name x.ty x.align) x.there) refl l;
        })
      where
        less : (j : ℕ) → j < at → j < made
        less j lt = omega (arith, lt, low)

  below : (block at made : ℕ) → (block ≡ 0 → at ≤ made → ⊥) → block ≡ 0 → made < at
  below block at made none first = on (le_or_lt at made)
    where
      le_or_lt : (a b : ℕ) → (a ≤ b) ⊎ (b < a)
      le_or_lt zero b = inl (omega arith)
      le_or_lt (suc a) zero = inr (omega arith)
      le_or_lt (suc a) (suc b) = ⊎_elim (λ le. inl (omega (arith, le))) (λ lt. inr (omega (arith, lt))) (le_or_lt a b)

      on : (at ≤ made) ⊎ (made < at) → made < at
      on (inl le) = absurd (none first le)
      on (inr lt) = lt

  marks_alloca : (block at : ℕ) (result : Option ℕ) (must_tail : Bool) (ty : Option Ty) (callee : Callee)
      (args : List Arg) → fetch f block at ≡ AtInstr (Instr.Call result must_tail ty callee args)
      → is_lifetime callee ≡ true → MarksAlloca f block at args
  marks_alloca block at result must_tail ty callee args here lifetime =
      let i : Instr = Instr.Call result must_tail ty callee args in
      let right = holds (marks (slot_size m f) args)
      (sym (ap (λ (b : Bool). b && not (marks (slot_size m f) args)) (lifetime_marks callee lifetime))
      ∙ at_instr k f (on_instr (marks_otherwise (slot_size m f))) rules.local.marks block at i here) in
      let y = marked_by (slot_size m f) args right in
      let z = sized_alloca m y.name y.bytes f y.sized in
      let a : Instr = Instr.Alloca y.name z.ty z.align in
      let w = stands_in f z.point a z.stands in
      let there : fetch f z.point.block z.point.at ≡ AtInstr a = by_instrs f z.point.block z.point.at w.block a w.got
      w.stands in
      let entry : z.point.block ≡ 0 = in_entry z.point.block z.point.at y.name z.align z.ty there in
      let own : IsEntryAlloca f z.point.at y.name = record {
        ty = z.ty;
        align = z.align;
        there = ap (λ (b : ℕ). fetch f b z.point.at) (sym entry) ∙ there;
      } in
      record {
        size = y.size;
        name = y.name;
        pointer = y.pointer;
        are = y.are;
        is = y.is;
        made = z.point.at;
        alloca = own;
        before = below block at z.point.at (λ first low. before z.point.at y.name own at i
            (ap (λ (b : ℕ). fetch f b at) (sym first) ∙ here)
            (lifetime_reads y.name result must_tail ty callee args lifetime
            (ap (λ (xs : List Arg). list_any (is_local y.name) (arg_operands xs)) y.are
            ∙ second_local y.name y.size y.pointer y.is)) low);
      }

  known_name : (at name : ℕ) → IsEntryAlloca f at name → name < length f.names
  known_name at name x = result_below k f rules.tabled (point 0 at) (Instr.Alloca name x.ty x.align) name
      (instr_there f 0 at (Instr.Alloca name x.ty x.align) x.there) refl

-- each function of a module, where those that stand there break no rule
pub allocas_alone : (ruler m : Module) → ((k : ℕ) → slice_get m.functions k ≡ Some (function_at m k)
    → KeepsFunctionRulesAt Stage.Plain ruler k (function_at m k)) → (k : ℕ) → AreAllocasAlone (function_at m k)
allocas_alone ruler m rules k = record {
  first = λ block at name align ty here. in_entry ruler k (function_at m k)
      (rules k (function_of_instr m k block at (Instr.Alloca name ty align) here)) block at name align ty here;
  once = λ at name x block other i here gives. one_place ruler k (function_at m k)
      (rules k (function_of_instr m k block other i here)) at name x block other i here gives;
  phis = λ at name x b p l n e. not_by_phi ruler k (function_at m k)
      (rules k (function_of_instr m k 0 at (Instr.Alloca name x.ty x.align) x.there)) at name x b p l n e;
  known = λ at name x. known_name ruler k (function_at m k)
      (rules k (function_of_instr m k 0 at (Instr.Alloca name x.ty x.align) x.there)) at name x;
  marks = λ block at result must_tail ty callee args here lifetime. marks_alloca ruler k (function_at m k)
      (rules k (function_of_instr m k block at (Instr.Call result must_tail ty callee args) here)) block at result
      must_tail ty callee args here lifetime;
}
