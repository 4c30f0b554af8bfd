-- The names of fetches, and that the addresses of phis' fetches are there at the ends of their blocks.
use Rattle.std.proofs.Common.{◌≡◌, inl, inr, ℕ, suc, ◌+◌, ◌<◌, ◌≤◌, Bool, true, false, List, [], ◌∷◌, ◌++◌, length, refl, sym, ◌∙◌, subst, arith}
use Rattle.std.proofs.lemmas.List.{length-replicate}
use Rattle.std.specs.List.{list_all, list_any}
use Rattle.std.specs.Prelude.{Option, Some, map, option_to_list, replicate, slice_get, ◌==◌, ◌&&◌, ◌||◌}
use Rattle.pass_edges_proof.specs.ir_base.declared.outcome.Place.{Place}
use Rattle.pass_edges_proof.specs.rule_uses.Undefined.{params_of}
use Rattle.pass_edges_proof.specs.rule_uses.Uses.{Use, block_uses, block_values, blocks_uses, incoming_use, incoming_uses, instr_uses, local_of, phi_uses, phi_values, uses_at, values_at}
use Rattle.pass_edges_proof.proofs.ir_laws.facts.Truth.{equal_numbers, and_first, and_second, holds}
use Rattle.pass_edges_proof.proofs.rule_laws.rules.local_rules.Carried.{Passing, passing}
use Rattle.pass_edges_proof.proofs.rule_laws.rules.local_rules.Defined.{label_defined}
use Rattle.pass_edges_proof.proofs.ir_laws.facts.Members.{each_left, each_right}
use Rattle.pass_edges_proof.proofs.rule_laws.rules.local_rules.Rows.{apart_right}
use Rattle.pass_edges_proof.proofs.rule_laws.rules.local_rules.Woven.{apart_names}
use Rattle.pass_edges_proof.proofs.ir_laws.paths.source_rules.Locals.{Apart, in_row, listed_right}
use Rattle.pass_edges_proof.proofs.rule_laws.rules.source_rules.Locals.{block_names, made_by, names_are}
use Rattle.pass_edges_proof.proofs.ir_laws.facts.Lists.{phi_names, row_of}
use Rattle.pass_fetch_proof.proofs.fetch.rules.Ends.{AllEnds, AreGood, IsGood, blocks_rise, grown_blocks, no_ends}
use Rattle.pass_fetch_proof.proofs.fetch.rules.Times.{fetches_once}
use Rattle.pass_fetch_proof.specs.fetch.rules.Fetches.{FetchesFit, HasBase, base_of, fetch_weaving, second_name}
use Rattle.pass_edges_proof.specs.flow_solver.Paths.{IsListed}
use Rattle.pass_edges_proof.specs.ir_parts.Contents.{ending_operands, part_labels, part_operands, part_types}
use Rattle.pass_edges_proof.specs.ir_parts.Locals.{locals_of}
use Rattle.pass_edges_proof.specs.ir_parts.Parts.{Ending, OfPhi, Part, block_parts, blocks_parts, instr_parts, instr_place, parts_of, phi_parts}
use Rattle.pass_edges_proof.specs.rule_laws.rules.function_rules.Kept.{KeepsFunctionRules}
use Rattle.ir_model.specs.Names.{position_of}
use Rattle.ir_model.specs.declared.instr.Incoming.{Incoming}
use Rattle.ir_model.specs.declared.instr.Instr.{Instr}
use Rattle.ir_model.specs.declared.instr.Phi.{Phi}
use Rattle.ir_model.specs.declared.module.Block.{Block}
use Rattle.ir_model.specs.declared.module.Function.{Function}
use Rattle.ir_model.specs.declared.module.Module.{Module}
use Rattle.ir_model.specs.declared.operand.Operand.{Operand}
use Rattle.pass_edges_proof.specs.rule_names.Known.{is_label, is_value, knows_operand, knows_type, names_unknown}
use Rattle.pass_edges_proof.specs.run_laws.changed.Changed.{Each}
use Rattle.pass_edges_proof.specs.pass_fetch.Blocks.{ends_of_blocks, next_after_blocks, with_fetches}
use Rattle.pass_edges_proof.specs.pass_fetch.Fetching.{fetch_of}
use Rattle.pass_edges_proof.specs.pass_fetch.declared.fetch.Fetch.{Fetch}
use Rattle.pass_edges_proof.proofs.rule_laws.rules.woven_rules.Once.{names_below}
use Rattle.pass_edges_proof.proofs.ir_laws.paths.woven_rules.Once.{times_none}
use Rattle.pass_edges_proof.specs.rule_laws.rules.woven_rules.Blocks.{times_made}
use Rattle.pass_edges_proof.specs.rule_laws.rules.woven_rules.Weaving.{IsThere, Weaving}

-- ---- labels

label_named : (bs : List Block) (l : ℕ) → IsListed l (map (λ (b : Block). b.label) bs) → IsListed l (row_of block_names bs)
label_named [] l h = absurd h
label_named (b ∷ bs) l (inl e) = inl e
label_named (b ∷ bs) l (inr h) = listed_right l (block_names b) (row_of block_names bs) (label_named bs l h)

labels_apart : (bs : List Block) → Apart (row_of block_names bs) → Apart (map (λ (b : Block). b.label) bs)
labels_apart [] h = tt
labels_apart (b ∷ bs) h = (
  λ l. h.0 (listed_right b.label (phi_names b.phis ++ row_of made_by b.instrs) (row_of block_names bs) (label_named bs b.label l)),
  labels_apart bs (apart_right (block_names b) (row_of block_names bs) h),
)

pub record HasBlock (bs : List Block) (l : ℕ) : Type 0 where
  pub at : ℕ
  pub block : Block
  pub there : slice_get bs at ≡ Some block
  pub same : block.label ≡ l

label_found : (bs : List Block) (l : ℕ) → list_any (λ (b : Block). b.label == l) bs ≡ true → HasBlock bs l
label_found [] l e = absurd (cc)
label_found (b ∷ bs) l e = on (b.label == l) refl e (label_found bs l)
  where
    on : (t : Bool) → (b.label == l) ≡ t → (t || list_any (λ (b : Block). b.label == l) bs) ≡ true → (list_any (λ (b : Block). b.label == l) bs ≡ true → HasBlock bs l) → HasBlock (b ∷ bs) l
    on true d k rest = record { at = 0; block = b; there = refl; same = equal_numbers b.label l d }
    on false d k rest = let x = rest k in record { at = suc x.at; block = x.block; there = x.there; same = x.same }

module _ (m : Module) (k : ℕ) (f : Function) (t : List (Option Fetch)) (word : List ℕ) (keeps : KeepsFunctionRules m k f) (fit : FetchesFit k f t) where
  abbrev pub first : ℕ
  first = length f.names

  abbrev pub second : ℕ
  second = second_name f t

  abbrev pub after : ℕ
  after = next_after_blocks t second f.blocks

  abbrev pub start : List (List Instr)
  start = replicate first []

  abbrev pub final : List (List Instr)
  final = ends_of_blocks t first start f.blocks

  abbrev pub g : Function
  g = with_fetches f t word

  abbrev pub w : Weaving
  w = fetch_weaving f t word

  abbrev pub unknown : Place → Part → Bool
  unknown = names_unknown m (is_value k f) (is_label k f)

  abbrev pub Based : List Use → Type 0
  Based us = Each (HasBase f t) us

  pub first_second : first ≤ second
  first_second = blocks_rise t first f.blocks

  -- ---- names

  names_apart : Apart (row_of block_names f.blocks)
  names_apart = apart_right (params_of f) (row_of block_names f.blocks) (subst Apart (names_are k f) (apart_names [] (locals_of k f) keeps.definitions))

  pub block_name_low : (v : ℕ) → IsListed v (row_of block_names f.blocks) → v < first
  block_name_low v l = names_below k f keeps.tabled v (listed_right v (params_of f) (row_of block_names f.blocks) l)

  pub once : (n : ℕ) → first ≤ n → times_made n g.blocks ≤ 1
  once n low =
      fetches_once t n first f.blocks low
      (times_none n (row_of block_names f.blocks) (λ l. let high : n < first = block_name_low n l in absurd (omega (arith, high, low))))
      (labels_apart f.blocks names_apart)

  pub found : (l : ℕ) → is_label k f l ≡ true → HasBlock f.blocks l
  found l e = label_found f.blocks l (sym (label_defined l k f) ∙ e)

  label_low : (l : ℕ) → is_label k f l ≡ true → l < first
  label_low l e = let x = found l e in block_name_low l (in_row block_names f.blocks x.at l x.block x.there (inl (sym x.same)))

  -- ---- phis' operands are good

  one_good : (p : Place) (i : Incoming) (us : List Use) (x : Operand) → Based (map (incoming_use f p i) (option_to_list (local_of x)) ++ us) → ((fetch : Fetch) → fetch_of t x ≡ Some fetch → IsThere f (position_of f i.from) (values_at f (position_of f i.from)) (base_of fetch)) × Based us
  one_good p i us (Operand.Local v) h = ((λ fetch e r before param. h.0 fetch e (record { reaches = r; not_before = before; no_param = param })), h.1)
  one_good p i us (Operand.Global n) h = ((λ fetch e. absurd (cc)), h)
  one_good p i us (Operand.Number z) h = ((λ fetch e. absurd (cc)), h)
  one_good p i us Operand.True h = ((λ fetch e. absurd (cc)), h)
  one_good p i us Operand.False h = ((λ fetch e. absurd (cc)), h)
  one_good p i us Operand.Null h = ((λ fetch e. absurd (cc)), h)
  one_good p i us Operand.None h = ((λ fetch e. absurd (cc)), h)
  one_good p i us Operand.Poison h = ((λ fetch e. absurd (cc)), h)

  abbrev pub LabelsKnown : List Incoming → Type 0
  LabelsKnown is = Each (λ (i : Incoming). is_label k f i.from ≡ true) is

  good_incoming : (p : Place) (is : List Incoming) → LabelsKnown is → Based (incoming_uses f p is) → Each (IsGood f t first second) is
  good_incoming p [] known h = tt
  good_incoming p (i ∷ is) known h =
      let x = one_good p i (incoming_uses f p is) i.value h in
      (record { label = label_low i.from known.0; there = x.0 }, good_incoming p is known.1 x.1)

  from_labels : (is : List Incoming) → list_all (is_label k f) (map (λ (i : Incoming). i.from) is) ≡ true → LabelsKnown is
  from_labels [] e = tt
  from_labels (i ∷ is) e = (and_first (is_label k f i.from) (list_all (is_label k f) (map (λ (i : Incoming). i.from) is)) e, from_labels is (and_second (is_label k f i.from) (list_all (is_label k f) (map (λ (i : Incoming). i.from) is)) e))

  pub phi_labels : (p : Place) (x : Phi) → unknown p (OfPhi x) ≡ false → LabelsKnown x.incoming
  phi_labels p x e =
      let labels : Bool = list_all (is_label k f) (part_labels (OfPhi x)) in
      let operands : Bool = list_all (knows_operand m (is_value k f)) (part_operands (OfPhi x)) in
      let types : Bool = list_all (knows_type m) (part_types (OfPhi x)) in
      from_labels x.incoming (and_first labels true (and_second operands (labels && true) (and_second types (operands && (labels && true)) (holds (types && (operands && (labels && true))) e))))

  good_phis : (block at : ℕ) (ps : List Phi) → Passing unknown (phi_parts k block at ps) → Based (phi_uses f k block at ps) → AreGood f t first second ps
  good_phis block at [] pass h = tt
  good_phis block at (p ∷ ps) pass h = (
    good_incoming (instr_place k block at) p.incoming (phi_labels (instr_place k block at) p pass.0) (each_left (HasBase f t) (incoming_uses f (instr_place k block at) p.incoming) (phi_uses f k block (at + 1) ps) h),
    good_phis block (at + 1) ps pass.1 (each_right (HasBase f t) (incoming_uses f (instr_place k block at) p.incoming) (phi_uses f k block (at + 1) ps) h),
  )

  pub phis_pass : (block : ℕ) (b : Block) → Passing unknown (block_parts k block b) → Passing unknown (phi_parts k block 0 b.phis)
  unfolding block_parts
  phis_pass block b h =
      each_left (λ x. unknown x.0 x.1 ≡ false) (phi_parts k block 0 b.phis) (instr_parts k block (length b.phis) b.instrs ++ ((instr_place k block (length b.phis + length b.instrs), Ending b.term) ∷ [])) h.1

  -- the uses of a block, one kind behind the other
  pub record BasedBlock (block : ℕ) (b : Block) : Type 0 where
    pub of_phis : Based (phi_uses f k block 0 b.phis)
    pub of_instrs : Based (instr_uses k block (length b.phis) (phi_values b) b.instrs)
    pub of_term : Based (uses_at (instr_place k block (length b.phis + length b.instrs)) block (block_values b) (ending_operands b.term))

  pub based_block : (block : ℕ) (b : Block) → Based (block_uses f k block b) → BasedBlock block b
  unfolding block_uses
  based_block block b h =
      let phis : List Use = phi_uses f k block 0 b.phis in
      let instrs : List Use = instr_uses k block (length b.phis) (phi_values b) b.instrs in
      let end : List Use = uses_at (instr_place k block (length b.phis + length b.instrs)) block (block_values b) (ending_operands b.term) in
      let rest : Based (instrs ++ end) = each_right (HasBase f t) phis (instrs ++ end) h in
      record { of_phis = each_left (HasBase f t) phis (instrs ++ end) h; of_instrs = each_left (HasBase f t) instrs end rest; of_term = each_right (HasBase f t) instrs end rest }

  good_blocks : (block : ℕ) (bs : List Block) → Passing unknown (blocks_parts k block bs) → Based (blocks_uses f k block bs) → Each (λ (b : Block). AreGood f t first second b.phis) bs
  good_blocks block [] pass h = tt
  good_blocks block (b ∷ bs) pass h =
      let P : Place × Part → Type 0 = λ x. unknown x.0 x.1 ≡ false in (
        good_phis block 0 b.phis (phis_pass block b (each_left P (block_parts k block b) (blocks_parts k (block + 1) bs) pass)) (based_block block b (each_left (HasBase f t) (block_uses f k block b) (blocks_uses f k (block + 1) bs) h)).of_phis,
        good_blocks (block + 1) bs (each_right P (block_parts k block b) (blocks_parts k (block + 1) bs) pass) (each_right (HasBase f t) (block_uses f k block b) (blocks_uses f k (block + 1) bs) h),
      )

  pub all_pass : Passing unknown (blocks_parts k 0 f.blocks)
  all_pass = (passing unknown (parts_of k f) keeps.known).1

  pub all_good : Each (λ (b : Block). AreGood f t first second b.phis) f.blocks
  all_good = good_blocks 0 f.blocks all_pass fit.bases

  pub no_names : length start ≡ first
  no_names = length-replicate first []

  pub final_ends : AllEnds f t first second final
  final_ends = (grown_blocks f t first second first start f.blocks all_good no_names (omega arith) (omega arith)).all (λ l j h. absurd (no_ends f t first second first l j h))
