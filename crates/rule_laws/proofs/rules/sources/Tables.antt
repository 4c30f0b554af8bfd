-- What a module that a text stands for defines are positions of its functions' tables.
use Rattle.std.proofs.Common.{◌≡◌, ⊎_elim, ℕ, zero, suc, ◌+◌, ◌<◌, Bool, List, [], ◌∷◌, ◌++◌, length, refl, sym, subst}
use Rattle.std.specs.Prelude.{Some, None, Option, map, option_to_list, slice_get, unwrap_or}
use Rattle.ir_laws.specs.ir_base.declared.name.Name.{Name}
use Rattle.ir_laws.specs.ir_base.declared.outcome.Place.{Place}
use Rattle.rule_laws.specs.rules.source_rules.Named.{AreTabled, HasTabledLocals}
use Rattle.ir_laws.specs.flow_solver.Paths.{IsListed}
use Rattle.ir_parts.specs.Contents.{part_locals, result_of}
use Rattle.ir_parts.specs.Locals.{is_head, local_at, locals_at, locals_in}
use Rattle.ir_parts.specs.Parts.{Part, block_parts, blocks_parts, instr_parts, phi_parts}
use Rattle.ir_parts.specs.declared.defined.Definition.{Definition}
use Rattle.text_grammar.specs.Text.{StandsFor}
use Rattle.ir_laws.specs.ir_model.Names.{no_function}
use Rattle.ir_laws.specs.ir_model.declared.instr.Instr.{Instr}
use Rattle.ir_laws.specs.ir_model.declared.instr.Phi.{Phi}
use Rattle.ir_laws.specs.ir_model.declared.module.Block.{Block}
use Rattle.ir_laws.specs.ir_model.declared.module.Function.{Function}
use Rattle.ir_laws.specs.ir_model.declared.module.Module.{Module}
use Rattle.ir_laws.specs.ir_model.declared.module.Param.{Param}
use Rattle.text_canonical.proofs.order.Shaped.{text_is_shaped}
use Rattle.text_canonical.specs.order.Shape.{Each, IsBlock, IsFunction, IsInstr, IsParam, IsPhi, IsPlaced, IsShaped}
use Rattle.ir_laws.proofs.facts.Lists.{below}
use Rattle.rule_laws.proofs.rules.source_rules.Shaped.{function_tabled as tabled}

part_at : {A : Type 0} (P : A → Type 0) (xs : List A) (n : ℕ) (x : A) → Each P xs → slice_get xs n ≡ Some x → P x
part_at P [] n x h e = absurd (cc)
part_at P (y ∷ xs) zero x h e = let is : y ≡ x = cc in subst P is h.0
part_at P (y ∷ xs) (suc n) x h e = part_at P xs n x h.1 e

joined : {A : Type 0} (P : A → Type 0) (xs ys : List A) → Each P xs → Each P ys → Each P (xs ++ ys)
joined P [] ys h k = k
joined P (x ∷ xs) ys h k = (h.0, joined P xs ys h.1 k)

listed : {A : Type 0} (P : A → Type 0) (xs : List A) (x : A) → Each P xs → IsListed x xs → P x
listed P [] x h l = absurd l
listed P (y ∷ xs) x h l = ⊎_elim (λ is. subst P (sym is) h.0) (λ rest. listed P xs x h.1 rest) l

-- ---- parts

module _ (names : List Name) where
  abbrev IsBelow : ℕ → Type 0
  IsBelow v = v < length names

  abbrev IsTabled : Definition → Type 0
  IsTabled d = d.name < length names

  -- what a part defines is in the table
  abbrev DefinesTabled : Place × Part → Type 0
  DefinesTabled x = Each IsBelow (part_locals x.1)

  placed : (v : ℕ) → IsPlaced names v → IsBelow v
  placed v h = below names v h.0 h.1

  result_tabled : (i : Instr) → IsInstr names i → Each IsBelow (option_to_list (result_of i))
  result_tabled (Instr.Binary r op f t a b) h = (placed r h.0, tt)
  result_tabled (Instr.Icmp r p t a b) h = (placed r h.0, tt)
  result_tabled (Instr.Select r c a b) h = (placed r h.0, tt)
  result_tabled (Instr.Cast r op nneg a t) h = (placed r h.0, tt)
  result_tabled (Instr.Alloca r t n) h = (placed r h.0, tt)
  result_tabled (Instr.Load r t p n) h = (placed r h.0, tt)
  result_tabled (Instr.Store a p n) h = tt
  result_tabled (Instr.Gep r inbounds t p is) h = (placed r h.0, tt)
  result_tabled (Instr.Call None must t c xs) h = tt
  result_tabled (Instr.Call (Some r) must t c xs) h = (placed r h.0, tt)

  params_tabled : (ps : List Param) → Each (IsParam names) ps → Each IsBelow (map (λ (p : Param). p.name) ps)
  params_tabled [] h = tt
  params_tabled (p ∷ ps) h = (placed p.name h.0.1, params_tabled ps h.1)

  phis_tabled : (func block at : ℕ) (ps : List Phi) → Each (IsPhi names) ps → Each DefinesTabled (phi_parts func block at ps)
  phis_tabled func block at [] h = tt
  phis_tabled func block at (p ∷ ps) h = ((placed p.result h.0.0, tt), phis_tabled func block (at + 1) ps h.1)

  instrs_tabled : (func block at : ℕ) (is : List Instr) → Each (IsInstr names) is → Each DefinesTabled (instr_parts func block at is)
  instrs_tabled func block at [] h = tt
  instrs_tabled func block at (i ∷ is) h = (result_tabled i h.0, instrs_tabled func block (at + 1) is h.1)

  block_tabled : (func block : ℕ) (b : Block) → IsBlock names b → Each DefinesTabled (block_parts func block b)
  unfolding block_parts
  block_tabled func block b h = (
    (placed b.label h.0, tt),
    joined DefinesTabled (phi_parts func block 0 b.phis) _ (phis_tabled func block 0 b.phis h.1)
        (joined DefinesTabled (instr_parts func block (length b.phis) b.instrs) _ (instrs_tabled func block (length b.phis) b.instrs h.2) (tt, tt)),
  )

  blocks_tabled : (func block : ℕ) (bs : List Block) → Each (IsBlock names) bs → Each DefinesTabled (blocks_parts func block bs)
  blocks_tabled func block [] h = tt
  blocks_tabled func block (b ∷ bs) h = joined DefinesTabled (block_parts func block b) (blocks_parts func (block + 1) bs) (block_tabled func block b h.0) (blocks_tabled func (block + 1) bs h.1)

  named_tabled : (p : Place) (label : Bool) (vs : List ℕ) → Each IsBelow vs → Each IsTabled (map (local_at p label) vs)
  named_tabled p label [] h = tt
  named_tabled p label (v ∷ vs) h = (h.0, named_tabled p label vs h.1)

  locals_tabled : (xs : List (Place × Part)) → Each DefinesTabled xs → Each IsTabled (locals_in xs)
  locals_tabled [] h = tt
  locals_tabled (x ∷ xs) h = joined IsTabled (locals_at x) (locals_in xs) (named_tabled x.0 (is_head x.1) (part_locals x.1) h.0) (locals_tabled xs h.1)

pub all_tabled : (text : List ℕ) (m : Module) → StandsFor text m → AreTabled m
all_tabled text m stands func coroutine = on (slice_get m.functions func) refl
  where
    shaped : IsShaped m
    shaped = text_is_shaped text m stands

    on : (o : Option Function) → slice_get m.functions func ≡ o → HasTabledLocals func (unwrap_or o no_function)
    on None e = λ d l. absurd l
    on (Some f) e = tabled func f (part_at IsFunction m.functions func f shaped.functions e)
