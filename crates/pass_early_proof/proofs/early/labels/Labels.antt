-- The labels of a function of a module that a text stands for are positions of its table of names, also after the first pass.
use Rattle.std.proofs.Common.{◌≡◌, ℕ, ◌-◌, ◌<◌, ◌≤◌, List, [], ◌∷◌, ◌++◌, length, sym, subst, length-append, arith}
use Rattle.std.specs.Prelude.{Some, None, Option, map, slice_get}
use Rattle.rule_laws.specs.ir_base.declared.name.Name.{Name}
use Rattle.rule_laws.proofs.ir_laws.facts.Lists.{get_within}
use Rattle.pass_early_proof.proofs.early.renaming.Parts.{targets_same}
use Rattle.pass_early.specs.BeginName.{begin_name, begin_named, if_unnamed, named_block}
use Rattle.pass_early.specs.Early.{after_blocks, after_instrs, early_blocks, early_coroutine, save_names}
use Rattle.pass_early.specs.declared.renaming.Renaming.{Renaming}
use Rattle.rule_laws.specs.ir_laws.paths.threads.Labels.{HasLabelsBelow, HasNamedLabels}
use Rattle.rule_laws.specs.text_grammar.Text.{StandsFor}
use Rattle.ir_model.specs.declared.instr.Case.{Case}
use Rattle.ir_model.specs.declared.instr.Terminator.{Terminator}
use Rattle.ir_model.specs.declared.module.Block.{Block}
use Rattle.ir_model.specs.declared.module.Function.{Function}
use Rattle.ir_model.specs.declared.module.Module.{Module}
use Rattle.rule_laws.specs.ir_paths.Paths.{targets}
use Rattle.rule_laws.proofs.text_canonical.order.Shaped.{text_is_shaped}
use Rattle.rule_laws.specs.text_canonical.order.Shape.{IsBlock, IsCase, IsFunction, IsPlaced, IsTerminator, Each as EachPart}
use Rattle.rule_laws.specs.run_laws.changed.Changed.{Each}
use Rattle.rule_laws.proofs.texts.named_texts.Placed.{part_at, some_each}

-- ---- texts

module _ (names : List Name) where
  placed : (i : ℕ) → IsPlaced names i → i < length names
  placed i h = get_within names i h.0 h.1

  cases_below : (cs : List Case) → EachPart (IsCase names) cs → Each (λ t. t < length names) (map (λ c. c.target) cs)
  cases_below [] h = tt
  cases_below (c ∷ cs) h = (placed c.target h.0.1, cases_below cs h.1)

  targets_below : (t : Terminator) → IsTerminator names t → Each (λ t. t < length names) (targets t)
  targets_below (Terminator.Jump l) h = (placed l h, tt)
  targets_below (Terminator.Branch c l r) h = (placed l h.1, (placed r h.2, tt))
  targets_below (Terminator.Switch a l cs) h = (placed l h.1, cases_below cs h.2)
  targets_below (Terminator.Ret None) h = tt
  targets_below (Terminator.Ret (Some a)) h = tt
  targets_below Terminator.Unreachable h = tt

  blocks_below : (bs : List Block) → EachPart (IsBlock names) bs → Each (HasLabelsBelow (length names)) bs
  blocks_below [] h = tt
  blocks_below (b ∷ bs) h = (record { label = placed b.label h.0.0; targets = targets_below b.term h.0.3 }, blocks_below bs h.1)

labels_in : (f : Function) → IsFunction f → HasNamedLabels f
labels_in f h = blocks_below f.names f.blocks (some_each (IsBlock f.names) f.blocks h.2)

pub text_labels : (text : List ℕ) (m : Module) → StandsFor text m → (k : ℕ) (f : Function) → slice_get m.functions k ≡ Some f → HasNamedLabels f
text_labels text m stands k f e = labels_in f (part_at IsFunction m.functions k f (text_is_shaped text m stands).functions e)

-- ---- the first pass

module _ (few many : ℕ) (le : few ≤ many) where
  all_more : (ts : List ℕ) → Each (λ t. t < few) ts → Each (λ t. t < many) ts
  all_more [] h = tt
  all_more (t ∷ ts) h = let lt : t < few = h.0 in (omega (arith, lt, le), all_more ts h.1)

  label_more : (l : ℕ) → l < few → l < many
  label_more l lt = omega (arith, lt, le)

  named_labels : (n : ℕ) (bs : List Block) → Each (HasLabelsBelow few) bs → Each (HasLabelsBelow many) (map (named_block n) bs)
  named_labels n [] h = tt
  named_labels n (b ∷ bs) h = (record { label = label_more b.label h.0.label; targets = all_more (targets b.term) h.0.targets }, named_labels n bs h.1)

  early_labels : (r : Renaming) (n : ℕ) (bs : List Block) → Each (HasLabelsBelow few) bs → Each (HasLabelsBelow many) (early_blocks r n bs)
  early_labels r n [] h = tt
  early_labels r n (b ∷ bs) h = (
    record { label = label_more b.label h.0.label; targets = subst (Each (λ t. t < many)) (sym (targets_same r b.term)) (all_more (targets b.term) h.0.targets) },
    early_labels r (after_instrs r n b.instrs) bs h.1,
  )

behind_more : {A : Type 0} (xs ys : List A) → length xs ≤ length (xs ++ ys)
behind_more xs ys = let len = length-append xs ys in omega (arith, len)

pub labels_named : (f : Function) (o : Option ℕ) → HasNamedLabels f → HasNamedLabels (if_unnamed o f)
labels_named f None h = named_labels (length f.names) (length (begin_named f).names) (behind_more f.names (begin_name ∷ [])) (length f.names) f.blocks h
labels_named f (Some n) h = h

pub labels_early : (f : Function) (r : Renaming) → HasNamedLabels f → HasNamedLabels (early_coroutine f r)
labels_early f r h =
    early_labels (length f.names) (length (early_coroutine f r).names) (behind_more f.names (save_names (after_blocks r (length f.names) f.blocks - length f.names))) r (length f.names) f.blocks h
