-- The labels of the function whose edges have blocks are known, and which edges lead to a label.
use Rattle.std.proofs.Common.{Bool, List, None, Option, Some, [], ap, arith, false, filter, if◌then◌else◌, length, map, refl, subst, suc, sym, true, zero, ℕ, ⊎_elim, ◌++◌, ◌+◌, ◌-◌, ◌<◌, ◌==◌, ◌||◌, ◌∙◌, ◌∷◌, ◌≡◌, ◌≤◌, inl, inr, unwrap_or}
use Rattle.std.proofs.lemmas.Bool.{cases_lt}
use Rattle.std.specs.List.{cons_option, list_all, list_any}
use Rattle.std.specs.Prelude.{filter_map, slice_get}
use Rattle.pass_early_proof.proofs.rule_laws.rules.local_rules.Defined.{label_defined}
use Rattle.pass_early_proof.proofs.ir_laws.facts.Truth.{and_both, and_first, and_second}
use Rattle.pass_edges_proof.proofs.edges.paths.Blocks.{number, spot}
use Rattle.pass_edges_proof.proofs.edges.paths.Edges.{edges_of_block}
use Rattle.pass_edges_proof.proofs.edges.paths.Tables.{among_filter, edge_among, filter_among, leads_to, table_at}
use Rattle.pass_edges_proof.specs.edges.paths.Labels.{IsAmong}
use Rattle.pass_edges_proof.specs.edges.paths.Spots.{behind_edges, table_of}
use Rattle.pass_edges_proof.proofs.edges.rules.Homes.{IsTarget, edge_target, edge_there, own_block, target_home}
use Rattle.pass_edges.specs.EdgeBlocks.{edge_block, incoming_on, incoming_with, operand_from, split_blocks, with_edge_blocks}
use Rattle.pass_edges.specs.Edges.{block_edges, edges_at, edges_by, edges_of, phi_flags}
use Rattle.pass_edges.specs.declared.edge.Edge.{Edge}
use Rattle.pass_early_proof.proofs.rule_laws.rules.known_labels.Rules.{labels_spelt}
use Rattle.pass_early_proof.proofs.ir_laws.facts.known_labels.Rules.{all_at}
use Rattle.pass_early_proof.specs.flow_solver.Paths.{IsListed}
use Rattle.pass_early_proof.specs.ir_parts.Contents.{ending_labels}
use Rattle.ir_model.specs.declared.instr.Incoming.{Incoming}
use Rattle.ir_model.specs.declared.module.Block.{Block}
use Rattle.ir_model.specs.declared.module.Function.{Function}
use Rattle.ir_model.specs.declared.operand.Operand.{Operand}
use Rattle.pass_early_proof.proofs.ir_paths.Search.{eq_from, eq_itself, or_left, or_right}
use Rattle.pass_early_proof.specs.ir_paths.Paths.{targets}
use Rattle.pass_early_proof.specs.rule_names.Known.{is_label}
use Rattle.pass_early_proof.proofs.ir_laws.facts.Lists.{get_behind, get_front}

-- ---- lists

pub any_at : {A : Type 0} (t : A → Bool) (xs : List A) (k : ℕ) (x : A) → slice_get xs k ≡ Some x → t x ≡ true → list_any t xs ≡ true
any_at t [] k x e h = absurd (cc)
any_at t (y ∷ xs) zero x e h = let same : y ≡ x = cc in or_left (t y) (list_any t xs) (ap t same ∙ h)
any_at t (y ∷ xs) (suc k) x e h = or_right (t y) (list_any t xs) (any_at t xs k x e h)

pub at_all : {A : Type 0} (t : A → Bool) (xs : List A) → ((k : ℕ) (x : A) → slice_get xs k ≡ Some x → t x ≡ true) → list_all t xs ≡ true
at_all t [] h = refl
at_all t (x ∷ xs) h = and_both (t x) (list_all t xs) (h 0 x refl) (at_all t xs (λ k y e. h (suc k) y e))

-- ---- the edges of a function, and the blocks from which they come

-- the edge comes from a block of the function
pub record ComesFromBlock (f : Function) (e : Edge) : Type 0 where
  pub index : ℕ
  pub block : Block
  pub got : slice_get f.blocks index ≡ Some block
  pub position : ℕ
  pub there : slice_get (edges_of_block f index block) position ≡ Some e

module _ (flags : List Bool) (table : List (List Edge)) where
  record IsIn (n : ℕ) (bs : List Block) (e : Edge) : Type 0 where
    index : ℕ
    block : Block
    got : slice_get bs index ≡ Some block
    position : ℕ
    there : slice_get (block_edges flags (number flags table index n bs) block) position ≡ Some e

  edge_in : (n : ℕ) (bs : List Block) (e : Edge) (i : ℕ) → slice_get (edges_by flags n bs) i ≡ Some e → IsIn n bs e
  edge_in n [] e i s = absurd (cc)
  edge_in n (b ∷ bs) e i s =
      let own : List Edge = block_edges flags n b in
      let rest : List Edge = edges_by flags (behind_edges flags n b) bs in
      ⊎_elim
      (λ (lt : i < length own). record { index = 0; block = b; got = refl; position = i; there = sym (get_front own rest i lt) ∙ s })
      (λ (ge : length own ≤ i).
      let j : ℕ = i - length own in
      let same : length own + j ≡ i = omega (arith, ge) in
      let x = edge_in (behind_edges flags n b) bs e j (sym (get_behind own rest j) ∙ ap (slice_get (own ++ rest)) same ∙ s) in
      record { index = suc x.index; block = x.block; got = x.got; position = x.position; there = x.there })
      (cases_lt i (length own))

pub edge_home : (f : Function) (e : Edge) → IsAmong (edges_of (phi_flags f) f) e → ComesFromBlock f e
edge_home f e a =
    let x = edge_in (phi_flags f) (table_of f) (length f.names) f.blocks e a.at a.got in
    record { index = x.index; block = x.block; got = x.got; position = x.position; there = x.there }

pub among_all : (f : Function) (k : ℕ) (b : Block) (i : ℕ) (e : Edge) → slice_get f.blocks k ≡ Some b → slice_get (edges_of_block f k b) i ≡ Some e → IsAmong (edges_of (phi_flags f) f) e
among_all f k b i e there got = edge_among (phi_flags f) (table_of f) k (length f.names) f.blocks b e there (record { at = i; got = got })

passes_filter : (t : Edge → Bool) (xs : List Edge) (i : ℕ) (e : Edge) → slice_get (filter t xs) i ≡ Some e → t e ≡ true
passes_filter t [] i e s = absurd (cc)
passes_filter t (x ∷ xs) i e s = on (t x) refl i s (passes_filter t xs)
  where
    on : (b : Bool) → t x ≡ b → (i : ℕ) → slice_get (if b then x ∷ filter t xs else filter t xs) i ≡ Some e → ((j : ℕ) (d : Edge) → slice_get (filter t xs) j ≡ Some d → t d ≡ true) → t e ≡ true
    on true h zero k again = let same : x ≡ e = cc in ap t (sym same) ∙ h
    on true h (suc j) k again = again j e k
    on false h i k again = again i e k

-- an edge that leads to the label, with the block from which it comes
pub record LeadsTo (f : Function) (label : ℕ) (e : Edge) : Type 0 where
  pub home : ComesFromBlock f e
  pub target : e.target ≡ label

pub edge_to_label : (f : Function) (label : ℕ) (e : Edge) → label < length f.names → IsAmong (edges_at (table_of f) label) e → LeadsTo f label e
edge_to_label f label e lt a =
    let b : IsAmong (filter (leads_to label) (edges_of (phi_flags f) f)) e = subst (λ (es : List Edge). IsAmong es e) (table_at f label lt) a in
    record {
      home = edge_home f e (filter_among (leads_to label) (edges_of (phi_flags f) f) e b);
      target = eq_from e.target label (passes_filter (leads_to label) (edges_of (phi_flags f) f) b.at e b.got);
    }

pub label_to_edge : (f : Function) (label k : ℕ) (b : Block) (i : ℕ) (e : Edge) → label < length f.names → slice_get f.blocks k ≡ Some b → slice_get (edges_of_block f k b) i ≡ Some e → e.target ≡ label → IsAmong (edges_at (table_of f) label) e
label_to_edge f label k b i e lt there got same =
    subst (λ (es : List Edge). IsAmong es e) (sym (table_at f label lt))
    (among_filter (leads_to label) (edges_of (phi_flags f) f) e (ap (λ (n : ℕ). n == label) same ∙ eq_itself label) (among_all f k b i e there got))

-- the labels of a phi's operands are labels of edges
pub labels_all : (u : ℕ → Bool) (is : List Incoming) (es : List Edge) → ((i : ℕ) (e : Edge) → slice_get es i ≡ Some e → u e.label ≡ true) → list_all u (map (λ i. i.from) (filter_map (incoming_on is) es)) ≡ true
labels_all u is [] h = refl
labels_all u is (e ∷ es) h = on (operand_from is e.from) (labels_all u is es (λ i d s. h (suc i) d s))
  where
    on : (o : Option Operand) → list_all u (map (λ i. i.from) (filter_map (incoming_on is) es)) ≡ true → list_all u (map (λ i. i.from) (cons_option (incoming_with e.label o) (filter_map (incoming_on is) es))) ≡ true
    on None again = again
    on (Some x) again = and_both (u e.label) (list_all u (map (λ i. i.from) (filter_map (incoming_on is) es))) (h 0 e refl) again

-- ---- known labels

any_later : {A : Type 0} (t : A → Bool) (xs ys : List A) → list_any t ys ≡ true → list_any t (xs ++ ys) ≡ true
any_later t [] ys h = h
any_later t (x ∷ xs) ys h = or_right (t x) (list_any t (xs ++ ys)) (any_later t xs ys h)

module _ (func : ℕ) (f : Function) where
  labelled_stays : (v : ℕ) (flags : List Bool) (table : List (List Edge)) (n : ℕ) (bs : List Block) → list_any (λ (b : Block). b.label == v) bs ≡ true → list_any (λ (b : Block). b.label == v) (split_blocks flags table n bs) ≡ true
  labelled_stays v flags table n [] h = absurd (cc)
  labelled_stays v flags table n (b ∷ bs) h = on (b.label == v) h (labelled_stays v flags table (behind_edges flags n b) bs)
    where
      rest : List Block
      rest = split_blocks flags table (behind_edges flags n b) bs

      on : (t : Bool) → (t || list_any (λ (x : Block). x.label == v) bs) ≡ true → (list_any (λ (x : Block). x.label == v) bs ≡ true → list_any (λ (x : Block). x.label == v) rest ≡ true) → (t || list_any (λ (x : Block). x.label == v) (map edge_block (block_edges flags n b) ++ rest)) ≡ true
      on true k again = refl
      on false k again = any_later (λ (x : Block). x.label == v) (map edge_block (block_edges flags n b)) rest (again k)

  pub label_stays : (v : ℕ) → is_label func f v ≡ true → is_label func (with_edge_blocks f) v ≡ true
  label_stays v h =
      label_defined v func (with_edge_blocks f)
      ∙ labelled_stays v (phi_flags f) (table_of f) (length f.names) f.blocks (sym (label_defined v func f) ∙ h)

  pub edge_known : (k : ℕ) (b : Block) (i : ℕ) (e : Edge) → slice_get f.blocks k ≡ Some b → slice_get (edges_of_block f k b) i ≡ Some e → is_label func (with_edge_blocks f) e.label ≡ true
  edge_known k b i e there got =
      label_defined e.label func (with_edge_blocks f)
      ∙ any_at (λ (x : Block). x.label == e.label) (with_edge_blocks f).blocks (spot f k + suc i) (edge_block e) (edge_there f k b i e there got) (eq_itself e.label)

  -- the labels of terminators
  pub targets_known : (k : ℕ) (b : Block) → slice_get f.blocks k ≡ Some b → list_all (is_label func f) (ending_labels b.term) ≡ true → list_all (is_label func (with_edge_blocks f)) (ending_labels (own_block f k b).term) ≡ true
  targets_known k b there h =
      ap (list_all (is_label func (with_edge_blocks f))) (labels_spelt (own_block f k b).term)
      ∙ at_all (is_label func (with_edge_blocks f)) (targets (own_block f k b).term)
      (λ at l e. known at l (target_home f k b at l e))
    where
      known : (at l : ℕ) → IsTarget f k b at l → is_label func (with_edge_blocks f) l ≡ true
      known at l x = ⊎_elim
          (λ (y : (l ≡ x.target) × (unwrap_or (slice_get (phi_flags f) x.target) false ≡ false)). subst (λ (v : ℕ). is_label func (with_edge_blocks f) v ≡ true) (sym y.0)
          (label_stays x.target (all_at (is_label func f) (targets b.term) at x.target (ap (list_all (is_label func f)) (sym (labels_spelt b.term)) ∙ h) x.got)))
          (λ (a : IsAmong (edges_of_block f k b) (record { from = b.label; target = x.target; label = l })). edge_known k b a.at (record { from = b.label; target = x.target; label = l }) there a.got)
          x.split

  pub edge_target_known : (k : ℕ) (b : Block) (i : ℕ) (e : Edge) → slice_get f.blocks k ≡ Some b → slice_get (edges_of_block f k b) i ≡ Some e → list_all (is_label func f) (ending_labels b.term) ≡ true → is_label func (with_edge_blocks f) e.target ≡ true
  edge_target_known k b i e there got h =
      label_stays e.target (all_listed (targets b.term) (ap (list_all (is_label func f)) (sym (labels_spelt b.term)) ∙ h) (edge_target f k b i e got))
    where
      all_listed : (ts : List ℕ) → list_all (is_label func f) ts ≡ true → IsListed e.target ts → is_label func f e.target ≡ true
      all_listed [] k l = absurd l
      all_listed (t ∷ ts) k (inl same) = subst (λ (v : ℕ). is_label func f v ≡ true) (sym same) (and_first (is_label func f t) (list_all (is_label func f) ts) k)
      all_listed (t ∷ ts) k (inr l) = all_listed ts (and_second (is_label func f t) (list_all (is_label func f) ts) k) l

  -- the labels of a phi's operands
  pub incoming_known : (label : ℕ) → label < length f.names → (is : List Incoming) → list_all (is_label func (with_edge_blocks f)) (map (λ i. i.from) (filter_map (incoming_on is) (edges_at (table_of f) label))) ≡ true
  incoming_known label lt is =
      labels_all (is_label func (with_edge_blocks f)) is (edges_at (table_of f) label)
      (λ i e s. one e (edge_to_label f label e lt (record { at = i; got = s })))
    where
      one : (e : Edge) → LeadsTo f label e → is_label func (with_edge_blocks f) e.label ≡ true
      one e x = edge_known x.home.index x.home.block x.home.position e x.home.got x.home.there
