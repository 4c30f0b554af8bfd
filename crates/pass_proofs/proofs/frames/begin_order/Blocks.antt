-- The block of begin, the labels that are flagged, and which blocks paths reach without begin's value.
use Rattle.std.proofs.Common.{◌≡◌, ◌⊎◌, inl, inr, ⊎_elim, ℕ, suc, ◌+◌, ◌<◌, Bool, true, false, List, [], ◌∷◌, length, refl, sym, ap, ◌∙◌, subst, arith}
use Rattle.std.specs.Prelude.{None, Option, Some, replicate, slice_get, if◌then◌else◌, ◌==◌}
use Rattle.pass_copies.specs.Uses.{flag_at, is_begin as is_copied_at}
use Rattle.pass_exits_proof.proofs.copies.begin_order.Marks.{flag_back, flag_set, flag_stays, none_flagged}
use Rattle.pass_exits_proof.proofs.rule_laws.flow_blocks.Bounds.{edge_bounded}
use Rattle.pass_exits_proof.specs.flow_blocks.Edges.{block_edges}
use Rattle.pass_exits_proof.specs.flow_blocks.Reach.{Edge, IsReached, Start}
use Rattle.pass_exits_proof.specs.rule_uses.Undefined.{Entry, Next, ReachesWithout, params_of}
use Rattle.pass_exits_proof.specs.rule_uses.Uses.{phi_values, values_at, values_in}
use Rattle.pass_exits_proof.proofs.ir_laws.facts.Truth.{equal_numbers, itself}
use Rattle.pass_exits_proof.proofs.ir_laws.facts.Lists.{get_within, set_length, row_of, flags_length}
use Rattle.pass_exits_proof.proofs.rule_laws.rules.source_rules.Locals.{block_names, own_label}
use Rattle.pass_exits_proof.proofs.ir_laws.paths.source_rules.Locals.{in_row, listed_right}
use Rattle.pass_exits_proof.specs.flow_solver.Paths.{IsListed}
use Rattle.pass_exits_proof.specs.ir_parts.Contents.{result_of}
use Rattle.pass_exits_proof.specs.rule_laws.rules.function_rules.Kept.{KeepsFunctionRules}
use Rattle.ir_model.specs.Names.{position_of}
use Rattle.ir_model.specs.declared.instr.Instr.{Instr}
use Rattle.ir_model.specs.declared.module.Block.{Block}
use Rattle.ir_model.specs.declared.module.Function.{Function}
use Rattle.ir_model.specs.declared.module.Module.{Module}
use Rattle.ir_model.specs.declared.operand.Callee.{Callee}
use Rattle.ir_model.specs.declared.operand.Intrinsic.{Intrinsic}
use Rattle.pass_frames.specs.Framed.{AreBefore, begin_block, begin_from, has_begin, is_begin, starts_before}
use Rattle.pass_frames.specs.Tables.{label_flags, with_label, with_labels}
use Rattle.pass_exits_proof.proofs.rule_laws.rules.woven_rules.Once.{names_below}
use Rattle.pass_exits_proof.proofs.rule_laws.rules.woven_rules.Pieces.{made_contains}

-- ---- begin

pub same_begin : (i : Instr) → is_copied_at i ≡ is_begin i
same_begin (Instr.Call r must_tail ty (Callee.Intrinsic Intrinsic.CoroBegin) args) = refl
same_begin _ = refl

pub begin_listed : (is : List Instr) → has_begin is ≡ true → (i : Instr) × (IsListed i is × (is_begin i ≡ true))
begin_listed [] e = absurd (cc)
begin_listed (i ∷ is) e = on (is_begin i) refl e (begin_listed is)
  where
    on : (b : Bool) → is_begin i ≡ b → (if b then true else has_begin is) ≡ true → (has_begin is ≡ true → (j : Instr) × (IsListed j is × (is_begin j ≡ true))) → (j : Instr) × (IsListed j (i ∷ is) × (is_begin j ≡ true))
    on true d h rest = (i, (inl refl, d))
    on false d h rest = let x = rest h in (x.0, (inr x.1.0, x.1.1))

pub none_begins : (is : List Instr) (i : Instr) → has_begin is ≡ false → IsListed i is → is_begin i ≡ true → ⊥
none_begins [] i e l d = l
none_begins (j ∷ is) i e l d = on (is_begin j) refl e l (λ h more. none_begins is i h more d)
  where
    on : (b : Bool) → is_begin j ≡ b → (if b then true else has_begin is) ≡ false → IsListed i (j ∷ is) → (has_begin is ≡ false → IsListed i is → ⊥) → ⊥
    on true c h l rest = absurd (cc)
    on false c h (inl same) rest = let t : true ≡ false = sym d ∙ ap is_begin same ∙ c in absurd (cc)
    on false c h (inr more) rest = rest h more

-- the block of begin, where there is one among the blocks from a position on
pub record IsBeginOf (k : ℕ) (bs : List Block) : Type 0 where
  pub at : ℕ
  pub block : Block
  pub there : slice_get bs at ≡ Some block
  pub begins : has_begin block.instrs ≡ true
  pub found : begin_from k bs ≡ k + at

pub begin_found : (k : ℕ) (bs : List Block) → (begin_from k bs ≡ k + length bs) ⊎ IsBeginOf k bs
begin_found k [] = inl (omega arith)
begin_found k (b ∷ bs) = on (has_begin b.instrs) refl (begin_found (k + 1) bs)
  where
    on : (c : Bool) → has_begin b.instrs ≡ c → (begin_from (k + 1) bs ≡ k + 1 + length bs) ⊎ IsBeginOf (k + 1) bs → (begin_from k (b ∷ bs) ≡ k + length (b ∷ bs)) ⊎ IsBeginOf k (b ∷ bs)
    on true d rest = inr (record { at = 0; block = b; there = refl; begins = d; found = ap (λ (c : Bool). if c then k else begin_from (k + 1) bs) d ∙ (omega arith) })
    on false d rest =
        let same : begin_from k (b ∷ bs) ≡ begin_from (k + 1) bs = ap (λ (c : Bool). if c then k else begin_from (k + 1) bs) d in
        ⊎_elim
        (λ (e : begin_from (k + 1) bs ≡ k + 1 + length bs). inl (same ∙ e ∙ (omega arith)))
        (λ (x : IsBeginOf (k + 1) bs). inr (record { at = suc x.at; block = x.block; there = x.there; begins = x.begins; found = same ∙ x.found ∙ (omega arith) }))
        rest

pub begins_first : (bs : List Block) (b : Block) → slice_get bs 0 ≡ Some b → has_begin b.instrs ≡ true → begin_from 0 bs ≡ 0
begins_first [] b e d = absurd (cc)
begins_first (c ∷ bs) b e d = let same : c ≡ b = cc in ap (λ (x : Bool). if x then 0 else begin_from 1 bs) (ap (λ (x : Block). has_begin x.instrs) same ∙ d)

-- ---- labels

module _ (f : Function) where
  label_length : (o : Option Block) (flags : List Bool) → length (with_label o flags) ≡ length flags
  label_length None flags = refl
  label_length (Some b) flags = set_length flags b.label true

  label_stays : (o : Option Block) (flags : List Bool) (l : ℕ) → flag_at flags l ≡ true → flag_at (with_label o flags) l ≡ true
  label_stays None flags l e = e
  label_stays (Some b) flags l e = flag_stays flags b.label l e

  labels_stay : (xs : List ℕ) (flags : List Bool) (l : ℕ) → flag_at flags l ≡ true → flag_at (with_labels f xs flags) l ≡ true
  labels_stay [] flags l e = e
  labels_stay (x ∷ xs) flags l e = labels_stay xs (with_label (slice_get f.blocks x) flags) l (label_stays (slice_get f.blocks x) flags l e)

  labels_here : (xs : List ℕ) (flags : List Bool) (at : ℕ) (b : Block) → IsListed at xs → slice_get f.blocks at ≡ Some b → b.label < length flags → flag_at (with_labels f xs flags) b.label ≡ true
  labels_here [] flags at b l e low = absurd l
  labels_here (x ∷ xs) flags at b (inl same) e low =
      labels_stay xs (with_label (slice_get f.blocks x) flags) b.label
      (subst (λ (o : Option Block). flag_at (with_label o flags) b.label ≡ true) (sym (ap (slice_get f.blocks) (sym same) ∙ e)) (flag_set flags b.label low))
  labels_here (x ∷ xs) flags at b (inr l) e low =
      labels_here xs (with_label (slice_get f.blocks x) flags) at b l e (let same = label_length (slice_get f.blocks x) flags in omega (arith, same, low))

  -- the block of a flagged label
  pub record IsLabelled (xs : List ℕ) (l : ℕ) : Type 0 where
    pub at : ℕ
    pub block : Block
    pub listed : IsListed at xs
    pub there : slice_get f.blocks at ≡ Some block
    pub label : block.label ≡ l

  label_back : (o : Option Block) (flags : List Bool) (l : ℕ) → flag_at (with_label o flags) l ≡ true → (flag_at flags l ≡ true) ⊎ ((b : Block) × ((o ≡ Some b) × (b.label ≡ l)))
  label_back None flags l e = inl e
  label_back (Some b) flags l e = ⊎_elim (λ h. inl h) (λ h. inr (b, (refl, h))) (flag_back flags b.label l e)

  labels_back : (xs : List ℕ) (flags : List Bool) (l : ℕ) → flag_at (with_labels f xs flags) l ≡ true → (flag_at flags l ≡ true) ⊎ IsLabelled xs l
  labels_back [] flags l e = inl e
  labels_back (x ∷ xs) flags l e =
      ⊎_elim
      (λ h. ⊎_elim (λ old. inl old) (λ here. inr (record { at = x; block = here.0; listed = inl refl; there = here.1.0; label = here.1.1 })) (label_back (slice_get f.blocks x) flags l h))
      (λ (h : IsLabelled xs l). inr (record { at = h.at; block = h.block; listed = inr h.listed; there = h.there; label = h.label }))
      (labels_back xs (with_label (slice_get f.blocks x) flags) l e)

module _ (m : Module) (k : ℕ) (f : Function) (keeps : KeepsFunctionRules m k f) where
  pub label_low : (at : ℕ) (b : Block) → slice_get f.blocks at ≡ Some b → b.label < length f.names
  label_low at b e = names_below k f keeps.tabled b.label (listed_right b.label (params_of f) (row_of block_names f.blocks) (in_row block_names f.blocks at b.label b e (inl refl)))

  pub flagged_here : (xs : List ℕ) (at : ℕ) (b : Block) → IsListed at xs → slice_get f.blocks at ≡ Some b → flag_at (label_flags f xs) b.label ≡ true
  flagged_here xs at b l e =
      labels_here f xs (replicate (length f.names) false) at b l e
      (let low = label_low at b e in let same = flags_length (length f.names) in omega (arith, low, same))

  pub flagged_back : (xs : List ℕ) (at : ℕ) (b : Block) → slice_get f.blocks at ≡ Some b → flag_at (label_flags f xs) b.label ≡ true → IsListed at xs
  flagged_back xs at b e d =
      ⊎_elim
      (λ h. let t : true ≡ false = sym h ∙ none_flagged (length f.names) b.label in absurd (cc))
      (λ (x : IsLabelled f xs b.label).
      let one : position_of f x.block.label ≡ x.at = own_label k f keeps.definitions x.at x.block x.there in
      let two : position_of f b.label ≡ at = own_label k f keeps.definitions at b e in
      subst (λ (n : ℕ). IsListed n xs) (sym one ∙ ap (position_of f) x.label ∙ two) x.listed)
      (labels_back f xs (replicate (length f.names) false) b.label d)

-- ---- paths without begin's value

module _ (f : Function) (begin : ℕ) (named : (at : ℕ) (b : Block) (i : Instr) → slice_get f.blocks at ≡ Some b → IsListed i b.instrs → is_begin i ≡ true → result_of i ≡ Some begin) where
  begin_made : (at : ℕ) (b : Block) → slice_get f.blocks at ≡ Some b → has_begin b.instrs ≡ true → IsListed begin (values_at f at)
  begin_made at b e d =
      let x = begin_listed b.instrs d in
      subst (λ (o : Option Block). IsListed begin (values_in o)) (sym e) (made_contains (phi_values b) b.instrs x.0 begin x.1.0 (named at b x.0 e x.1.0 x.1.1))

  -- a block from which an edge leads without begin's value is not begin's
  leaves_otherwise : (from to : ℕ) → (IsListed begin (values_at f from) → ⊥) → IsListed (from, to) (block_edges f) → from ≡ begin_block f → ⊥
  leaves_otherwise from to none e same =
      ⊎_elim
      (λ (far : begin_from 0 f.blocks ≡ 0 + length f.blocks). let low : from < length f.blocks = (edge_bounded f from to e).0 in absurd (omega (arith, same, far, low)))
      (λ (x : IsBeginOf 0 f.blocks).
      let at_is : x.at ≡ from = let a : begin_from 0 f.blocks ≡ 0 + x.at = x.found in omega (arith, same, a) in
      none (subst (λ (n : ℕ). IsListed begin (values_at f n)) at_is (begin_made x.at x.block x.there x.begins)))
      (begin_found 0 f.blocks)

  starts : (bb : ℕ) → (0 ≡ bb → ⊥) → IsListed 0 (starts_before bb)
  starts bb other = on (bb == 0) refl
    where
      on : (c : Bool) → (bb == 0) ≡ c → IsListed {X = ℕ} 0 (if c then [] else 0 ∷ [])
      on true d = absurd (other (sym (equal_numbers bb 0 d)))
      on false d = inl refl

  reached_before : (block : ℕ) → ReachesWithout f begin block → (block ≡ begin_block f → ⊥) → IsReached f (starts_before (begin_block f)) (begin_block f ∷ []) block
  reached_before _ Entry other = Start 0 (starts (begin_block f) other)
  reached_before _ (Next from to r none e) other =
      Edge from to (reached_before from r (leaves_otherwise from to none e)) e (λ l. ⊎_elim (λ h. other h) (λ h. h) l)

  -- a block that a path reaches without begin's value is begin's own or one before
  pub before_told : (before : List ℕ) → AreBefore f before → (at : ℕ) (b : Block) → slice_get f.blocks at ≡ Some b → ReachesWithout f begin at → IsListed at (begin_block f ∷ before)
  before_told before are at b e r = on (at == begin_block f) refl
    where
      on : (c : Bool) → (at == begin_block f) ≡ c → IsListed at (begin_block f ∷ before)
      on true d = inl (equal_numbers at (begin_block f) d)
      on false d = inr (are.is_told at (get_within f.blocks at b e) (reached_before at r (λ same. let t : true ≡ false = sym (itself (begin_block f)) ∙ ap (λ (n : ℕ). n == begin_block f) (sym same) ∙ d in absurd (cc))))

unreached : (f : Function) (avoided : List ℕ) (block : ℕ) → IsReached f [] avoided block → ⊥
unreached f avoided _ (Start block l) = l
unreached f avoided _ (Edge from to r h other) = unreached f avoided from r

-- where begin stands in the entry block, no block is before it
pub none_before : (f : Function) (before : List ℕ) → AreBefore f before → begin_block f ≡ 0 → before ≡ []
none_before f before are e = on before are
  where
    on : (bs : List ℕ) → AreBefore f bs → bs ≡ []
    on [] h = refl
    on (b ∷ bs) h = absurd (unreached f (begin_block f ∷ []) b (subst (λ (n : ℕ). IsReached f (starts_before n) (begin_block f ∷ []) b) e (h.is_reached b (inl refl))))
