-- Where saves are written out, locals are positions of their functions' tables still.
use Rattle.std.proofs.Common.{◌≡◌, ℕ, ◌+◌, ◌<◌, ◌≤◌, Bool, true, false, List, [], ◌∷◌, length, length-append, refl, sym, ap, ◌∙◌, subst, arith}
use Rattle.std.specs.Prelude.{Some, None, Option, if◌then◌else◌}
use Rattle.pass_early.specs.Early.{save_call, save_names, saved}
use Rattle.ir_model.specs.Names.{function_at}
use Rattle.ir_model.specs.declared.instr.Incoming.{Incoming}
use Rattle.ir_model.specs.declared.instr.Instr.{Instr}
use Rattle.ir_model.specs.declared.instr.Phi.{Phi}
use Rattle.ir_model.specs.declared.module.Block.{Block}
use Rattle.ir_model.specs.declared.module.Function.{Function}
use Rattle.ir_model.specs.declared.module.Module.{Module}
use Rattle.ir_model.specs.declared.module.Param.{Param}
use Rattle.ir_model.specs.declared.operand.Operand.{Operand}
use Rattle.pass_early_proof.proofs.early.saves.Parts.{function_saved}
use Rattle.pass_early_proof.specs.early.saves.SavesWritten.{behind_blocks, behind_save, behind_saves, is_bare, save_count, saved_block, saved_blocks, saved_function, saves_written, with_save, with_saves}
use Rattle.rule_laws.specs.run_laws.changed.Changed.{Each, operands_of, operands_of_term, result_of, Each as EachOperand}
use Rattle.rule_laws.specs.ir_laws.facts.expanded.Tokens.{IsNamed, IsNamedResult}
use Rattle.pass_early_proof.proofs.early.save_simulation.Suspending.{bare_is}
use Rattle.pass_early_proof.proofs.early.save_states.Calls.{names_length}
use Rattle.rule_laws.specs.ir_laws.facts.sound_states.Named.{AreLocalsNamed, AreUsesNamed, HasNamedLocals, HasNamedUses}
use Rattle.rule_laws.proofs.ir_laws.facts.Members.{each_joined as joined, each_turns as each_then}

-- ---- numbers of saves rise

more_one : (c : Bool) (n : ℕ) (i : Instr) → n ≤ behind_save c n i
more_one c n i = on (is_bare c i)
  where
    on : (b : Bool) → n ≤ (if b then n + 1 else n)
    on true = omega arith
    on false = omega arith

more_in : (c : Bool) (n : ℕ) (is : List Instr) → n ≤ behind_saves c n is
more_in c n [] = omega arith
more_in c n (i ∷ is) =
    let one = more_one c n i in
    let rest = more_in c (behind_save c n i) is in
    omega (arith, one, rest)

more_blocks : (c : Bool) (n : ℕ) (bs : List Block) → n ≤ behind_blocks c n bs
more_blocks c n [] = omega arith
more_blocks c n (b ∷ bs) =
    let first = more_in c n b.instrs in
    let rest = more_blocks c (behind_saves c n b.instrs) bs in
    omega (arith, first, rest)

pub table_length : (f : Function) → length (saved_function f).names ≡ behind_blocks f.coroutine (length f.names) f.blocks
table_length f =
    let whole = length-append f.names (save_names (save_count f)) in
    let count = names_length (save_count f) in
    let more = more_blocks f.coroutine (length f.names) f.blocks in
    omega (arith, whole, count, more)

blocks_then : (c : Bool) (P Q : Block → Type 0) → ((n : ℕ) (b : Block) → P b → Q (saved_block c n b)) → (n : ℕ) (bs : List Block) → Each P bs → Each Q (saved_blocks c n bs)
blocks_then c P Q go n [] h = tt
blocks_then c P Q go n (b ∷ bs) h = (go n b h.0, blocks_then c P Q go (behind_saves c n b.instrs) bs h.1)

module _ (c : Bool) (total : ℕ) (P Q : Instr → Type 0) (group : (n : ℕ) (i : Instr) → P i → behind_save c n i ≤ total → Each Q (with_save c n i)) where
  instrs_then : (n : ℕ) (is : List Instr) → Each P is → behind_saves c n is ≤ total → Each Q (with_saves c n is)
  instrs_then n [] h le = tt
  instrs_then n (i ∷ is) h le =
      let more = more_in c (behind_save c n i) is in
      joined Q (with_save c n i) (with_saves c (behind_save c n i) is) (group n i h.0 (omega (arith, more, le))) (instrs_then (behind_save c n i) is h.1 le)

  all_then : (n : ℕ) (bs : List Block) → Each (λ (b : Block). Each P b.instrs) bs → behind_blocks c n bs ≤ total → Each (λ (b : Block). Each Q b.instrs) (saved_blocks c n bs)
  all_then n [] h le = tt
  all_then n (b ∷ bs) h le =
      let more = more_blocks c (behind_saves c n b.instrs) bs in
      (instrs_then n b.instrs h.0 (omega (arith, more, le)), all_then (behind_saves c n b.instrs) bs h.1 le)

-- ---- more names

module _ (few total : ℕ) (le : few ≤ total) where
  result_more : (o : Option ℕ) → IsNamedResult few o → IsNamedResult total o
  result_more None h = tt
  result_more (Some v) h = omega (arith, le, h)

  number_more : (v : ℕ) → v < few → v < total
  number_more v h = omega (arith, le, h)

  operand_more : (x : Operand) → IsNamed few x → IsNamed total x
  operand_more (Operand.Local v) h = number_more v h
  operand_more (Operand.Global n) h = tt
  operand_more (Operand.Number z) h = tt
  operand_more Operand.True h = tt
  operand_more Operand.False h = tt
  operand_more Operand.Null h = tt
  operand_more Operand.None h = tt
  operand_more Operand.Poison h = tt

  operands_more : (xs : List Operand) → EachOperand (IsNamed few) xs → EachOperand (IsNamed total) xs
  operands_more [] h = tt
  operands_more (x ∷ xs) h = (operand_more x h.0, operands_more xs h.1)

  -- ---- an instruction with its save

  results_group : (c : Bool) (n : ℕ) (i : Instr) → IsNamedResult few (result_of i) → behind_save c n i ≤ total → Each (λ (j : Instr). IsNamedResult total (result_of j)) (with_save c n i)
  results_group c n i h = on (is_bare c i) refl
    where
      on : (b : Bool) → is_bare c i ≡ b → (if b then n + 1 else n) ≤ total → Each (λ (j : Instr). IsNamedResult total (result_of j)) (if b then save_call n ∷ saved n i ∷ [] else i ∷ [])
      on true e most =
          let is = bare_is c i e in
          let own : result_of (saved n i) ≡ result_of i = ap (λ (x : Instr). result_of (saved n x)) is.is ∙ sym (ap result_of is.is) in
          (omega (arith, most), (subst (IsNamedResult total) (sym own) (result_more (result_of i) h), tt))
      on false e most = (result_more (result_of i) h, tt)

  operands_group : (c : Bool) (n : ℕ) (i : Instr) → EachOperand (IsNamed few) (operands_of i) → behind_save c n i ≤ total → Each (λ (j : Instr). EachOperand (IsNamed total) (operands_of j)) (with_save c n i)
  operands_group c n i h = on (is_bare c i) refl
    where
      on : (b : Bool) → is_bare c i ≡ b → (if b then n + 1 else n) ≤ total → Each (λ (j : Instr). EachOperand (IsNamed total) (operands_of j)) (if b then save_call n ∷ saved n i ∷ [] else i ∷ [])
      on true e most =
          let is = bare_is c i e in
          let parts = subst (λ (x : Instr). EachOperand (IsNamed few) (operands_of x)) is.is h in
          ((tt, tt), (subst (λ (x : Instr). EachOperand (IsNamed total) (operands_of (saved n x))) (sym is.is) (omega (arith, most), operands_more _ parts.1), tt))
      on false e most = (operands_more (operands_of i) h, tt)

-- ---- functions

module _ (f : Function) where
  abbrev few : ℕ
  few = length f.names

  abbrev total : ℕ
  total = length (saved_function f).names

  few_more : few ≤ total
  few_more =
      let same = table_length f in
      let more = more_blocks f.coroutine few f.blocks in
      omega (arith, same, more)

  all_behind : behind_blocks f.coroutine few f.blocks ≤ total
  all_behind = let same = table_length f in omega (arith, same)

  locals_kept : HasNamedLocals f → HasNamedLocals (saved_function f)
  locals_kept h = record {
    params = each_then (λ (p : Param). p.name < few) (λ (p : Param). p.name < total) (λ p k. number_more few total few_more p.name k) f.params h.params;
    phis = blocks_then f.coroutine (λ (b : Block). Each (λ (p : Phi). p.result < few) b.phis) (λ (b : Block). Each (λ (p : Phi). p.result < total) b.phis) (λ n b k. each_then (λ (p : Phi). p.result < few) (λ (p : Phi). p.result < total) (λ p j. number_more few total few_more p.result j) b.phis k) few f.blocks h.phis;
    results = all_then f.coroutine total (λ (i : Instr). IsNamedResult few (result_of i)) (λ (i : Instr). IsNamedResult total (result_of i)) (results_group few total few_more f.coroutine) few f.blocks h.results all_behind;
  }

  uses_kept : HasNamedUses f → HasNamedUses (saved_function f)
  uses_kept h = record {
    operands = all_then f.coroutine total (λ (i : Instr). EachOperand (IsNamed few) (operands_of i)) (λ (i : Instr). EachOperand (IsNamed total) (operands_of i)) (operands_group few total few_more f.coroutine) few f.blocks h.operands all_behind;
    incoming = blocks_then f.coroutine (λ (b : Block). Each (λ (p : Phi). Each (λ (x : Incoming). IsNamed few x.value) p.incoming) b.phis) (λ (b : Block). Each (λ (p : Phi). Each (λ (x : Incoming). IsNamed total x.value) p.incoming) b.phis) (λ n b k. each_then (λ (p : Phi). Each (λ (x : Incoming). IsNamed few x.value) p.incoming) (λ (p : Phi). Each (λ (x : Incoming). IsNamed total x.value) p.incoming) (λ p j. each_then (λ (x : Incoming). IsNamed few x.value) (λ (x : Incoming). IsNamed total x.value) (λ x l. operand_more few total few_more x.value l) p.incoming j) b.phis k) few f.blocks h.incoming;
    ends = blocks_then f.coroutine (λ (b : Block). EachOperand (IsNamed few) (operands_of_term b.term)) (λ (b : Block). EachOperand (IsNamed total) (operands_of_term b.term)) (λ n b k. operands_more few total few_more (operands_of_term b.term) k) few f.blocks h.ends;
  }

pub locals_stay_named : (m : Module) → AreLocalsNamed m → AreLocalsNamed (saves_written m)
locals_stay_named m h func = subst HasNamedLocals (sym (function_saved m func)) (locals_kept (function_at m func) (h func))

pub uses_stay_named : (m : Module) → AreUsesNamed m → AreUsesNamed (saves_written m)
uses_stay_named m h func = subst HasNamedUses (sym (function_saved m func)) (uses_kept (function_at m func) (h func))
