-- A module whose parts are parts of the grammar: what its functions define are positions of their tables of names.
use Rattle.std.proofs.Common.{◌≡◌, inl, inr, ⊎_elim, ℕ, zero, suc, ◌<◌, true, false, List, [], ◌∷◌, ◌++◌, length, refl, sym, ap, ◌∙◌, subst}
use Rattle.std.specs.Prelude.{Some, None, Option, map, option_to_list, slice_get, unwrap_or}
use Rattle.ir_laws.specs.ir_base.declared.name.Name.{Name}
use Rattle.rule_uses.specs.Undefined.{params_of}
use Rattle.ir_laws.proofs.facts.Lists.{get_within, phi_names, row_of}
use Rattle.rule_laws.proofs.rules.source_rules.Locals.{block_names, made_by, name_of, names_are}
use Rattle.ir_laws.proofs.paths.source_rules.Locals.{listed_either}
use Rattle.rule_laws.specs.rules.source_rules.Named.{AreTabled, HasTabledLocals}
use Rattle.ir_laws.specs.flow_solver.Paths.{IsListed}
use Rattle.ir_parts.specs.Locals.{locals_of}
use Rattle.ir_parts.specs.declared.defined.Definition.{Definition}
use Rattle.ir_laws.specs.ir_model.Names.{function_at, no_function}
use Rattle.ir_laws.specs.ir_model.declared.instr.Instr.{Instr}
use Rattle.ir_laws.specs.ir_model.declared.instr.Phi.{Phi}
use Rattle.ir_laws.specs.ir_model.declared.module.Block.{Block}
use Rattle.ir_laws.specs.ir_model.declared.module.Function.{Function}
use Rattle.ir_laws.specs.ir_model.declared.module.Module.{Module}
use Rattle.ir_laws.specs.ir_model.declared.module.Param.{Param}
use Rattle.text_canonical.specs.order.Shape.{Each, IsBlock, IsFunction, IsInstr, IsParam, IsPhi, IsPlaced, IsSet, IsShaped}
use Rattle.rule_laws.proofs.texts.order_rules.Ordered.{each_of as some_each}

module _ (names : List Name) where
  -- all of them are positions of the table
  abbrev AreBelow : List ℕ → Type 0
  AreBelow ns = (n : ℕ) → IsListed n ns → n < length names

  placed : (k n : ℕ) → IsPlaced names k → n ≡ k → n < length names
  placed k n h e = subst (λ (j : ℕ). j < length names) (sym e) (get_within names k h.0 h.1)

  one_below : (k : ℕ) → IsPlaced names k → AreBelow (k ∷ [])
  one_below k h n (inl e) = placed k n h e
  one_below k h n (inr l) = absurd l

  both_below : (xs ys : List ℕ) → AreBelow xs → AreBelow ys → AreBelow (xs ++ ys)
  both_below xs ys a b n h = ⊎_elim (λ l. a n l) (λ l. b n l) (listed_either n xs ys h)

  params_below : (ps : List Param) → Each (IsParam names) ps → AreBelow (map (λ p. p.name) ps)
  params_below [] h n l = absurd l
  params_below (p ∷ ps) h n (inl e) = placed p.name n h.0.1 e
  params_below (p ∷ ps) h n (inr l) = params_below ps h.1 n l

  phis_below : (ps : List Phi) → Each (IsPhi names) ps → AreBelow (phi_names ps)
  phis_below [] h n l = absurd l
  phis_below (p ∷ ps) h n (inl e) = placed p.result n h.0.0 e
  phis_below (p ∷ ps) h n (inr l) = phis_below ps h.1 n l

  result_below : (o : Option ℕ) → IsSet names o → AreBelow (option_to_list o)
  result_below None h = λ n l. absurd l
  result_below (Some k) h = one_below k h

  instr_below : (i : Instr) → IsInstr names i → AreBelow (made_by i)
  instr_below (Instr.Binary r op flags ty a b) h = one_below r h.0
  instr_below (Instr.Icmp r pred ty a b) h = one_below r h.0
  instr_below (Instr.Select r c a b) h = one_below r h.0
  instr_below (Instr.Cast r op nneg arg to) h = one_below r h.0
  instr_below (Instr.Alloca r ty align) h = one_below r h.0
  instr_below (Instr.Load r ty p align) h = one_below r h.0
  instr_below (Instr.Store arg p align) h = λ n l. absurd l
  instr_below (Instr.Gep r inbounds ty base indices) h = one_below r h.0
  instr_below (Instr.Call result must_tail ty callee args) h = result_below result h.0

  instrs_below : (is : List Instr) → Each (IsInstr names) is → AreBelow (row_of made_by is)
  instrs_below [] h = λ n l. absurd l
  instrs_below (i ∷ is) h = both_below (made_by i) (row_of made_by is) (instr_below i h.0) (instrs_below is h.1)

  block_below : (b : Block) → IsBlock names b → AreBelow (block_names b)
  block_below b h n (inl e) = placed b.label n h.0 e
  block_below b h n (inr l) = both_below (phi_names b.phis) (row_of made_by b.instrs) (phis_below b.phis h.1) (instrs_below b.instrs h.2) n l

  blocks_below : (bs : List Block) → Each (IsBlock names) bs → AreBelow (row_of block_names bs)
  blocks_below [] h = λ n l. absurd l
  blocks_below (b ∷ bs) h = both_below (block_names b) (row_of block_names bs) (block_below b h.0) (blocks_below bs h.1)

pub name_listed : (d : Definition) (ds : List Definition) → IsListed d ds → IsListed d.name (map name_of ds)
name_listed d [] h = absurd h
name_listed d (x ∷ ds) (inl e) = inl (ap name_of e)
name_listed d (x ∷ ds) (inr h) = inr (name_listed d ds h)

pub function_tabled : (func : ℕ) (f : Function) → IsFunction f → HasTabledLocals func f
function_tabled func f h d l =
    both_below f.names (params_of f) (row_of block_names f.blocks) (params_below f.names f.params h.1) (blocks_below f.names f.blocks (some_each (IsBlock f.names) f.blocks h.2)) d.name
    (subst (IsListed d.name) (names_are func f) (name_listed d (locals_of func f) l))

pub function_shaped : (fs : List Function) (k : ℕ) (f : Function) → Each IsFunction fs → slice_get fs k ≡ Some f → IsFunction f
function_shaped [] k f h e = absurd (cc)
function_shaped (x ∷ fs) zero f h e = let same : x ≡ f = cc in subst IsFunction same h.0
function_shaped (x ∷ fs) (suc k) f h e = function_shaped fs k f h.1 e

pub are_tabled : (m : Module) → IsShaped m → AreTabled m
are_tabled m h func coroutine = on (slice_get m.functions func) refl
  where
    on : (o : Option Function) → slice_get m.functions func ≡ o → HasTabledLocals func (function_at m func)
    on None e = let t : false ≡ true = sym (ap (λ (o : Option Function). (unwrap_or o no_function).coroutine) e) ∙ coroutine in absurd (cc)
    on (Some f) e = subst (HasTabledLocals func) (sym (ap (λ (o : Option Function). unwrap_or o no_function) e)) (function_tabled func f (function_shaped m.functions func f h.functions e))
