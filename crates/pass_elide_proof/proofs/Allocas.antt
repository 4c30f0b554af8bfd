-- The facts of a framed run know each alloca of a function.
use Rattle.std.proofs.Common.{◌≡◌, ℕ, zero, suc, Bool, true, false, List, [], ◌∷◌, ◌++◌, map, refl, sym, ap, ◌∙◌, subst, ◌||◌, ◌==◌}
use Rattle.std.specs.List.{list_any}
use Rattle.std.specs.Prelude.{None, Option, Some, ℤ, flat_map, option_map, slice_get, unwrap_or}
use Rattle.pass_elide_proof.proofs.AtCalls.{in_block}
use Rattle.pass_elide_proof.specs.Places.{instrs_in}
use Rattle.pass_elide_proof.specs.Sound.{KnowsAllocas}
use Rattle.pass_proofs.proofs.ir_laws.facts.Truth.{itself}
use Rattle.pass_proofs.specs.frame_layout.declared.layout.Layout.{Layout}
use Rattle.pass_proofs.specs.ir_model.Names.{no_function}
use Rattle.pass_proofs.specs.ir_model.Ty.{Ty}
use Rattle.pass_proofs.specs.ir_model.declared.instr.Instr.{Instr}
use Rattle.pass_proofs.specs.ir_model.declared.module.Block.{Block}
use Rattle.pass_proofs.specs.ir_model.declared.module.Function.{Function}
use Rattle.pass_proofs.specs.ir_model.declared.module.Module.{Module}
use Rattle.pass_proofs.specs.ir_paths.Slots.{allocas_in, allocas_of}
use Rattle.pass_proofs.specs.ir_paths.declared.point.Facts.{Facts}
use Rattle.pass_proofs.specs.run_framed.Framed.{framed_facts, framed_given}
use Rattle.pass_proofs.specs.run_source_tables.Given.{facts_at}
use Rattle.pass_proofs.specs.run_step.Step.{AtInstr, fetch}

module _ (test : ℕ → Bool) where
  any_left : (xs ys : List ℕ) → list_any test xs ≡ true → list_any test (xs ++ ys) ≡ true
  any_left [] ys h = absurd (cc)
  any_left (x ∷ xs) ys h = by (test x) h (λ k. any_left xs ys k)
    where
      by : (b : Bool) → (b || list_any test xs) ≡ true
          → (list_any test xs ≡ true → list_any test (xs ++ ys) ≡ true) → (b || list_any test (xs ++ ys)) ≡ true
      by true h again = refl
      by false h again = again h

  any_right : (xs ys : List ℕ) → list_any test ys ≡ true → list_any test (xs ++ ys) ≡ true
  any_right [] ys h = h
  any_right (x ∷ xs) ys h = by (test x) (any_right xs ys h)
    where
      by : (b : Bool) → list_any test (xs ++ ys) ≡ true → (b || list_any test (xs ++ ys)) ≡ true
      by true h = refl
      by false h = h

module _ (name : ℕ) where
  abbrev Is : ℕ → Bool
  Is a = a == name

  more : (i : Instr) (is : List Instr) → list_any Is (allocas_in is) ≡ true → list_any Is (allocas_in (i ∷ is)) ≡ true
  more (Instr.Alloca n ty align) is h = by (n == name)
    where
      by : (b : Bool) → (b || list_any Is (allocas_in is)) ≡ true
      by true = refl
      by false = h
  more (Instr.Binary n op flags ty a b) is h = h
  more (Instr.Icmp n pred ty a b) is h = h
  more (Instr.Select n x a b) is h = h
  more (Instr.Cast n op nneg arg to) is h = h
  more (Instr.Load n ty p align) is h = h
  more (Instr.Store arg p align) is h = h
  more (Instr.Gep n inbounds ty base indices) is h = h
  more (Instr.Call result must_tail ty callee args) is h = h

  in_instrs : (is : List Instr) (at align : ℕ) (ty : Ty) → slice_get is at ≡ Some (Instr.Alloca name ty align)
      → list_any Is (allocas_in is) ≡ true
  in_instrs [] at align ty is = absurd (cc)
  in_instrs (i ∷ is) zero align ty there =
      let same : i ≡ Instr.Alloca name ty align = cc in
      subst (λ (j : Instr). list_any Is (allocas_in (j ∷ is)) ≡ true) (sym same)
      (λ k. itself name k || list_any Is (allocas_in is))
  in_instrs (i ∷ is) (suc at) align ty there = more i is (in_instrs is at align ty there)

  in_blocks : (bs : List Block) (block at align : ℕ) (ty : Ty) (b : Block) → slice_get bs block ≡ Some b
      → slice_get b.instrs at ≡ Some (Instr.Alloca name ty align)
      → list_any Is (flat_map (λ (c : Block). allocas_in c.instrs) bs) ≡ true
  in_blocks [] block at align ty b is there = absurd (cc)
  in_blocks (c ∷ bs) zero at align ty b is there =
      let same : c ≡ b = cc in
      any_left Is (allocas_in c.instrs) (flat_map (λ (d : Block). allocas_in d.instrs) bs)
      (in_instrs c.instrs at align ty (ap (λ (d : Block). slice_get d.instrs at) same ∙ there))
  in_blocks (c ∷ bs) (suc block) at align ty b is there =
      any_right Is (allocas_in c.instrs) (flat_map (λ (d : Block). allocas_in d.instrs) bs)
      (in_blocks bs block at align ty b is there)

  in_function : (f : Function) (block at align : ℕ) (ty : Ty) → fetch f block at ≡ AtInstr (Instr.Alloca name ty align)
      → list_any Is (allocas_of f) ≡ true
  in_function f block at align ty is =
      by (slice_get f.blocks block) refl (in_block (slice_get f.blocks block) at (Instr.Alloca name ty align) is)
    where
      by : (o : Option Block) → slice_get f.blocks block ≡ o
          → slice_get (instrs_in o) at ≡ Some (Instr.Alloca name ty align) → list_any Is (allocas_of f) ≡ true
      by None eo there = absurd (cc)
      by (Some b) eo there = in_blocks f.blocks block at align ty b eo there

get_mapped : (fs : List Function) (k : ℕ) → slice_get (map framed_facts fs) k ≡ option_map framed_facts (slice_get fs k)
get_mapped [] k = refl
get_mapped (f ∷ fs) zero = refl
get_mapped (f ∷ fs) (suc k) = get_mapped fs k

pub knows_allocas : (m : Module) (layouts : List Layout) (answers : List ℤ)
    → KnowsAllocas (framed_given m layouts answers)
knows_allocas m layouts answers func block at name align b ty is = by (slice_get m.functions func) refl is
  where
    by : (o : Option Function) → slice_get m.functions func ≡ o
        → fetch (unwrap_or o no_function) block at ≡ AtInstr (Instr.Alloca name ty align)
        → list_any (λ (a : ℕ). a == name) (facts_at (map framed_facts m.functions) func).ramp_slots ≡ true
    by None eo there = absurd (cc)
    by (Some f) eo there =
        ap (λ (o : Option Facts). list_any (λ (a : ℕ). a == name)
        (unwrap_or o (record { windows = []; ramp_slots = [] })).ramp_slots)
        (get_mapped m.functions func ∙ ap (option_map framed_facts) eo)
        ∙ in_function name f block at align ty there
