-- The blocks from which edges lead to a label to which no edge with a mark leads, and so what F1 says of phis, stay.
use Rattle.std.proofs.Common.{◌≡◌, ⊎_elim, inl, inr, ℕ, suc, ◌+◌, ◌<◌, Bool, true, false, ◌&&◌, ◌||◌, List, [], ◌∷◌, ◌++◌, None, Option, Some, ap, filter, length, map, not, refl, subst, sym, ◌∙◌, arith, if◌then◌else◌}
use Rattle.std.specs.Prelude.{slice_get, ◌==◌}
use Rattle.pass_fetch_proof.proofs.rule_laws.rules.renamed.Switches.{none_part}
use Rattle.pass_fetch_proof.proofs.ir_laws.facts.Truth.{holds}
use Rattle.pass_fetch_proof.proofs.ir_laws.facts.local_rules.Woven.{other_number}
use Rattle.pass_fetch_proof.proofs.rule_laws.rules.path_rules.Holding.{HoldsIn, of_parts, part_none, to_parts}
use Rattle.pass_fetch_proof.specs.ir_base.declared.outcome.Place.{Place}
use Rattle.pass_fetch_proof.specs.ir_laws.paths.threads.Labels.{HasLabelsBelow}
use Rattle.pass_fetch_proof.proofs.edges.rules.Edges.{phis_there}
use Rattle.pass_fetch_proof.specs.edges.rules.Phis.{ArePhisEnteredByJumps}
use Rattle.pass_fetch_proof.specs.rule_phis.Edges.{breaks_edges, first_wrong_edge, fits_edges, has, into_block, is_empty, leads, predecessors}
use Rattle.pass_fetch_proof.proofs.rule_laws.rules.known_labels.Known.{labels_known}
use Rattle.pass_fetch_proof.proofs.rule_laws.rules.known_labels.Rules.{labels_spelt}
use Rattle.pass_fetch_proof.specs.flow_solver.Paths.{IsListed}
use Rattle.pass_fetch_proof.specs.ir_parts.Parts.{Part, parts_of}
use Rattle.pass_fetch_proof.specs.rule_laws.rules.function_rules.Kept.{KeepsFunctionRules}
use Rattle.ir_model.specs.declared.instr.Phi.{Phi}
use Rattle.ir_model.specs.declared.module.Block.{Block}
use Rattle.ir_model.specs.declared.module.Function.{Function}
use Rattle.ir_model.specs.declared.module.Module.{Module}
use Rattle.pass_fetch_proof.specs.ir_paths.Paths.{targets}
use Rattle.pass_fetch_proof.proofs.ir_laws.facts.Members.{at_each as each_at}
use Rattle.pass_split.specs.pass_exits.ExitBlocks.{after_exit, blocks_by, exit_block, exit_blocks, exit_label, exit_term, with_exit_blocks, with_exits}
use Rattle.pass_split.specs.pass_exits.Exits.{block_exits, mark_of}
use Rattle.pass_split.specs.pass_exits.declared.exit.Exit.{Exit}
use Rattle.pass_fetch_proof.proofs.rule_laws.rules.threaded.Carried.{entry_same}
use Rattle.pass_exits_proof.proofs.exits.rules.Cuts.{cut_labels, cut_targets, taken}
use Rattle.pass_exits_proof.proofs.exits.rules.Places.{own_there, spot}
use Rattle.pass_fetch_proof.proofs.rule_laws.rules.threaded.Single.{listed_leads}
use Rattle.pass_exits_proof.proofs.exits.rules.Single.{phis_unmarked}
use Rattle.pass_exits_proof.proofs.exits.rules.Threaded.{moves, threaded}
use Rattle.pass_fetch_proof.proofs.ir_laws.paths.threaded.Threads.{IsBlockOver, IsMovedBlock, between, ended}
use Rattle.pass_fetch_proof.proofs.rule_laws.rules.threaded.Threads.{IsThreaded}
use Rattle.pass_fetch_proof.proofs.rule_laws.rules.threaded.Sources.{none_filtered}

-- no edge to the label has a mark
abbrev pub IsUnmarked : Function → ℕ → Type 0
IsUnmarked f label = (k : ℕ) (b : Block) → slice_get f.blocks k ≡ Some b → IsListed label (targets b.term) → mark_of f k label ≡ None

none_some : (o : Option ℕ) (j : ℕ) → o ≡ Some j → o ≡ None → ⊥
none_some o j e d = let no : Some j ≡ None = sym e ∙ d in absurd (cc)

module _ (f : Function) (label : ℕ) where
  cut_has : (at from n : ℕ) (ts : List ℕ) → label < n → (IsListed label ts → mark_of f at label ≡ None) → has (cut_labels f at from n ts) label ≡ has ts label
  cut_has at from n [] lt h = refl
  cut_has at from n (t ∷ ts) lt h = on (mark_of f at t) refl (λ k low. cut_has at from k ts low (λ l. h (inr l)))
    where
      on : (o : Option ℕ) → mark_of f at t ≡ o → ((k : ℕ) → label < k → has (cut_labels f at from k ts) label ≡ has ts label) → ((exit_label n o t == label) || has (cut_labels f at from (after_exit n o) ts) label) ≡ ((t == label) || has ts label)
      on None e again = ap (λ (x : Bool). (t == label) || x) (again n lt)
      on (Some j) e again =
          let first = other_number n label (λ same. omega (arith, lt, same)) in
          let was = other_number t label (λ same. none_some (mark_of f at t) j e (ap (mark_of f at) same ∙ h (inl (sym same)))) in
          let rest = again (n + 1) (omega (arith, lt)) in
          ap (λ (x : Bool). x || has (cut_labels f at from (n + 1) ts) label) (first ∙ sym was) ∙ ap (λ (x : Bool). (t == label) || x) rest

  leads_same : (at n : ℕ) (b : Block) → label < n → (IsListed label (targets b.term) → mark_of f at label ≡ None) → leads label (with_exits f at n b) ≡ leads label b
  leads_same at n b lt h =
      ap (λ (ls : List ℕ). has ls label) (labels_spelt (exit_term f at n b.term) ∙ cut_targets f at b.label n b.term)
      ∙ cut_has at b.label n (targets b.term) lt h
      ∙ ap (λ (ls : List ℕ). has ls label) (sym (labels_spelt b.term))

  no_exits : (n : ℕ) (es : List Exit) (rest : List Block) → ((i : ℕ) (e : Exit) → slice_get es i ≡ Some e → (e.target == label) ≡ false) → filter (leads label) (exit_blocks n es ++ rest) ≡ filter (leads label) rest
  no_exits n [] rest h = refl
  no_exits n (e ∷ es) rest h =
      ap (λ (x : Bool). if x || false then exit_block n e ∷ filter (leads label) (exit_blocks (n + 1) es ++ rest) else filter (leads label) (exit_blocks (n + 1) es ++ rest)) (h 0 e refl)
      ∙ no_exits (n + 1) es rest (λ i d s. h (suc i) d s)

  sources_in : (at n : ℕ) (bs : List Block) → label < n → ((k : ℕ) (b : Block) → slice_get bs k ≡ Some b → IsListed label (targets b.term) → mark_of f (at + k) label ≡ None) → map (λ b. b.label) (filter (leads label) (blocks_by f at n bs)) ≡ map (λ b. b.label) (filter (leads label) bs)
  sources_in at n [] lt h = refl
  sources_in at n (b ∷ bs) lt h = on (leads label b) (leads_same at n b lt own)
      (later (sources_in (at + 1) (n + length (block_exits f at b)) bs (omega (arith, lt)) (λ k c e l. let z : at + suc k ≡ at + 1 + k = omega arith in ap (λ (j : ℕ). mark_of f j label) (sym z) ∙ h (suc k) c e l)))
    where
      own : IsListed label (targets b.term) → mark_of f at label ≡ None
      own l = let z : at + 0 ≡ at = omega arith in ap (λ (k : ℕ). mark_of f k label) (sym z) ∙ h 0 b refl l

      later : map (λ c. c.label) (filter (leads label) (blocks_by f (at + 1) (n + length (block_exits f at b)) bs)) ≡ map (λ c. c.label) (filter (leads label) bs) → map (λ c. c.label) (filter (leads label) (exit_blocks n (block_exits f at b) ++ blocks_by f (at + 1) (n + length (block_exits f at b)) bs)) ≡ map (λ c. c.label) (filter (leads label) bs)
      later again =
          ap (map (λ (c : Block). c.label)) (no_exits n (block_exits f at b) (blocks_by f (at + 1) (n + length (block_exits f at b)) bs)
          (λ i e s. let x = taken f at b.label n (targets b.term) i e s in
          other_number e.target label (λ same. none_some (mark_of f at e.target) e.suspend x.mark (ap (mark_of f at) same ∙ own (subst (λ (t : ℕ). IsListed t (targets b.term)) same x.target)))))
          ∙ again

      on : (t : Bool) → leads label (with_exits f at n b) ≡ t → map (λ c. c.label) (filter (leads label) (exit_blocks n (block_exits f at b) ++ blocks_by f (at + 1) (n + length (block_exits f at b)) bs)) ≡ map (λ c. c.label) (filter (leads label) bs) → map (λ c. c.label) (if leads label (with_exits f at n b) then with_exits f at n b ∷ filter (leads label) (exit_blocks n (block_exits f at b) ++ blocks_by f (at + 1) (n + length (block_exits f at b)) bs) else filter (leads label) (exit_blocks n (block_exits f at b) ++ blocks_by f (at + 1) (n + length (block_exits f at b)) bs)) ≡ map (λ c. c.label) (if t then b ∷ filter (leads label) bs else filter (leads label) bs)
      on true e after =
          ap (λ (x : Bool). map (λ (c : Block). c.label) (if x then with_exits f at n b ∷ filter (leads label) (exit_blocks n (block_exits f at b) ++ blocks_by f (at + 1) (n + length (block_exits f at b)) bs) else filter (leads label) (exit_blocks n (block_exits f at b) ++ blocks_by f (at + 1) (n + length (block_exits f at b)) bs))) e
          ∙ ap (λ (ls : List ℕ). b.label ∷ ls) after
      on false e after =
          ap (λ (x : Bool). map (λ (c : Block). c.label) (if x then with_exits f at n b ∷ filter (leads label) (exit_blocks n (block_exits f at b) ++ blocks_by f (at + 1) (n + length (block_exits f at b)) bs) else filter (leads label) (exit_blocks n (block_exits f at b) ++ blocks_by f (at + 1) (n + length (block_exits f at b)) bs))) e
          ∙ after

  pub sources_same : label < length f.names → IsUnmarked f label → predecessors (with_exit_blocks f) label ≡ predecessors f label
  sources_same lt h = sources_in 0 (length f.names) f.blocks lt (λ k b e l. let z : 0 + k ≡ k = omega arith in ap (λ (j : ℕ). mark_of f j label) z ∙ h k b e l)

module _ (m : Module) (func : ℕ) (f : Function) (rules : KeepsFunctionRules m func f) (jumps : ArePhisEnteredByJumps f) where
  abbrev g : Function
  g = with_exit_blocks f

  t : IsThreaded f (with_exit_blocks f) (moves f)
  t = threaded m func f rules jumps

  pub label_low : (k : ℕ) (b : Block) → slice_get f.blocks k ≡ Some b → b.label < length f.names
  label_low k b there = (each_at (HasLabelsBelow (length f.names)) f.blocks k b (labels_known func f rules.tabled m rules.known) there).label

  abbrev Fits : Function → Place × Part → Type 0
  Fits h x = breaks_edges h x.0 x.1 ≡ false

  head_fits : (k : ℕ) (b : Block) → slice_get f.blocks k ≡ Some b → ((k == 0) && not (is_empty (predecessors f b.label))) ≡ false → ((spot f k == 0) && not (is_empty (predecessors g b.label))) ≡ false
  head_fits k b there h = ap (λ (x : Bool). x && not (is_empty (predecessors g b.label))) (entry_same f g (moves f) t k) ∙ on (k == 0) h
    where
      on : (x : Bool) → (x && not (is_empty (predecessors f b.label))) ≡ false → (x && not (is_empty (predecessors g b.label))) ≡ false
      on true e =
          let none = holds (is_empty (predecessors f b.label)) e in
          ap (λ (ls : List ℕ). not (is_empty ls)) (sources_same f b.label (label_low k b there) (λ j c at l. absurd (none_filtered (leads b.label) f.blocks none j c at (listed_leads c b.label l)))) ∙ e
      on false e = refl

  phi_fits : (k : ℕ) (b : Block) (j : ℕ) (x : Phi) → slice_get f.blocks k ≡ Some b → slice_get b.phis j ≡ Some x → not (fits_edges (into_block (predecessors f) (slice_get f.blocks k)) x.incoming) ≡ false → not (fits_edges (into_block (predecessors g) (slice_get g.blocks (spot f k))) x.incoming) ≡ false
  phi_fits k b j x there stands h =
      ap (λ (o : Option Block). not (fits_edges (into_block (predecessors g) o) x.incoming)) (own_there f k b there)
      ∙ ap (λ (ls : List ℕ). not (fits_edges ls x.incoming)) (sources_same f b.label (label_low k b there) (λ i c at l. phis_unmarked f jumps k i b c there (phis_there b.phis j x stands) at l))
      ∙ ap (λ (o : Option Block). not (fits_edges (into_block (predecessors f) o) x.incoming)) (sym there)
      ∙ h

  own_fits : (k : ℕ) (b : Block) → slice_get f.blocks k ≡ Some b → HoldsIn (Fits f) func k b → HoldsIn (Fits g) func (spot f k) (ended b ((moves f).term k b))
  own_fits k b there h = record {
    head = head_fits k b there h.head;
    phis = λ j x e. phi_fits k b j x there e (h.phis j x e);
    instrs = λ j i e. refl;
    ending = refl;
  }

  over_fits : (at : ℕ) (c : Block) (x : IsBlockOver f g (moves f) at c) → HoldsIn (Fits g) func at (between x.label x.target)
  over_fits at c x = record {
    head = ap (λ (b : Bool). b && not (is_empty (predecessors g x.label))) (other_number at 0 (λ e. x.over.apart 0 (sym e ∙ x.stands)));
    phis = λ j y d. absurd (cc);
    instrs = λ j y d. absurd (cc);
    ending = refl;
  }

  pub edges_kept : first_wrong_edge func f ≡ None → first_wrong_edge func (with_exit_blocks f) ≡ None
  edges_kept e =
      let parts = of_parts (Fits f) func f (none_part (breaks_edges f) (parts_of func f) e) in
      part_none (breaks_edges g) (parts_of func g) (to_parts (Fits g) func g (record {
        signature = refl;
        blocks = λ at c there. ⊎_elim
            (λ (x : IsMovedBlock f (moves f) at c). subst (λ (k : ℕ). HoldsIn (Fits g) func k c) (sym x.stands) (subst (HoldsIn (Fits g) func (spot f x.index)) (sym x.is) (own_fits x.index x.block x.got (parts.blocks x.index x.block x.got))))
            (λ (x : IsBlockOver f g (moves f) at c). subst (HoldsIn (Fits g) func at) (sym x.is) (over_fits at c x))
            (t.home at c there);
      }))
