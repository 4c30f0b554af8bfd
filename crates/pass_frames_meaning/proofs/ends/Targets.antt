-- Where a terminator of a coroutine leads: to no entry, and to no block on a resume or destroy edge.
use Rattle.std.proofs.Common.{◌≡◌, inl, inr, ⊎_elim, ℕ, Bool, true, false, List, [], ◌∷◌, length, Option, Some, None, refl, sym, ap, ◌∙◌, subst, arith, ◌==◌}
use Rattle.std.specs.List.{list_any}
use Rattle.std.specs.Prelude.{option_map, slice_get, unwrap_or}
use Rattle.pass_frames_proof.specs.flow_solver.Paths.{IsListed}
use Rattle.pass_frames_proof.proofs.ir_laws.facts.Truth.{equal_numbers}
use Rattle.pass_frames_proof.proofs.ir_laws.paths.edges.Lists.{listed_at}
use Rattle.pass_frames_proof.proofs.ir_laws.paths.woven_rules.Unbroken.{of_listed}
use Rattle.pass_frames_proof.specs.ir_laws.paths.rows.Returns.{IsOwnBlock}
use Rattle.pass_frames_proof.specs.ir_model.Names.{block_labelled, position_of}
use Rattle.pass_frames_proof.specs.ir_model.declared.instr.Instr.{Instr}
use Rattle.pass_frames_proof.specs.ir_model.declared.instr.Terminator.{Terminator}
use Rattle.pass_frames_proof.specs.ir_model.declared.module.Block.{Block}
use Rattle.pass_frames_proof.specs.ir_model.declared.module.Function.{Function}
use Rattle.pass_frames_proof.specs.ir_model.declared.operand.Intrinsic.{Intrinsic}
use Rattle.pass_frames_proof.specs.ir_paths.Paths.{targets}
use Rattle.pass_frames_proof.specs.ir_paths.Windows.{is_call_of}
use Rattle.pass_frames_proof.proofs.code.Passes.{block_is}
use Rattle.pass_frames_proof.specs.Framings.{IsFraming}
use Rattle.pass_frames_proof.specs.Passes.{block_at}
use Rattle.pass_frames_proof.specs.Places.{Framing, edged, instrs_at, is_return}
use Rattle.pass_frames_proof.specs.pass_intrinsics.Shapes.{suspends_of}
use Rattle.pass_frames_proof.proofs.pass_proofs.copies.begin_order.Early.{leads_again}
use Rattle.pass_frames_proof.proofs.pass_proofs.copies.shape.Returned.{resumed_listed}
use Rattle.pass_frames_proof.proofs.pass_proofs.split.edges.Entered.{to_predecessors}
use Rattle.pass_frames_proof.proofs.rule_laws.frames.crossing.Entries.{none_enters}
use Rattle.pass_frames_proof.proofs.rule_laws.frames.shape.Points.{point_from}
use Rattle.pass_frames_proof.proofs.rule_laws.rules.source_rules.Locals.{own_label}
use Rattle.pass_frames_proof.proofs.rule_laws.rules.threaded.Labels.{HasBlock, target_there}
use Rattle.pass_frames_proof.specs.rule_laws.frames.replaced.Splittable.{HasOwnEdges, IsLedToBy}
use Rattle.pass_frames_proof.specs.rule_laws.frames.rows.Returns.{HaveOwnReturns}
use Rattle.pass_frames_proof.proofs.run_states.renamed.Fits.{Ends, ends}
use Rattle.pass_frames_proof.specs.run_step.Step.{AtTerm, Context, GoTo, Nowhere, Work, fetch, fetch_in, fetch_or, term_action}

-- ---- the end of a block

-- a terminator stands behind the last instruction of its block
pub record IsTermAt (f : Function) (k at : ℕ) (e : Terminator) : Type 0 where
  pub here : slice_get f.blocks k ≡ Some (block_at f k)
  pub at_end : at ≡ length (block_at f k).instrs
  pub term : (block_at f k).term ≡ e

same_term : (a b : Terminator) → AtTerm a ≡ AtTerm b → a ≡ b
same_term a b e = cc

pub term_at : (f : Function) (k at : ℕ) (e : Terminator) → fetch f k at ≡ AtTerm e → IsTermAt f k at e
term_at f k at e h = on (slice_get f.blocks k) refl (λ i. h i)
  where
    by : (b : Block) (o : Option Instr) (last : Bool) → (at == length b.instrs) ≡ last
        → fetch_or o last b.term ≡ AtTerm e → (at ≡ length b.instrs) × (b.term ≡ e)
    by b None true d h = (equal_numbers at (length b.instrs) d, same_term b.term e h)
    by b None false d h = absurd (cc)
    by b (Some i) last d h = absurd (cc)

    on : (o : Option Block) → slice_get f.blocks k ≡ o → fetch f k at ≡ AtTerm e → IsTermAt f k at e
    on None d h = let no : Nowhere ≡ AtTerm e = sym (ap (λ (o : Option Block). fetch_in o at) d) ∙ h in absurd (cc)
    on (Some b) d h =
        let same : block_at f k ≡ b = block_is f k b d in
        let z = by b (slice_get b.instrs at) (at == length b.instrs) refl
        (sym (ap (λ (o : Option Block). fetch_in o at) d) ∙ h) in
        record {
          here = d ∙ ap Some (sym same);
          at_end = z.0 ∙ ap (λ (c : Block). length c.instrs) (sym same);
          term = ap (λ (c : Block). c.term) same ∙ z.1;
        }

-- ---- labels

listed_of : (ls : List ℕ) (label : ℕ) → list_any (λ l. l == label) ls ≡ true → IsListed label ls
listed_of [] label h = absurd (cc)
listed_of (l ∷ ls) label h = on (l == label) refl h (listed_of ls label)
  where
    on : (b : Bool) → (l == label) ≡ b → Rattle.std.specs.Prelude.◌||◌ b (list_any (λ k. k == label) ls) ≡ true
        → (list_any (λ k. k == label) ls ≡ true → IsListed label ls) → IsListed label (l ∷ ls)
    on true e h rest = inl (sym (equal_numbers l label e))
    on false e h rest = inr (rest h)

pub goes_listed : (c : Context) (w : Work) (e : Terminator) (label : ℕ) → term_action c w e ≡ GoTo label
    → IsListed label (targets e)
goes_listed c w e label does =
    listed_of (targets e) label (subst (Ends c w e) does (ends c w e))

-- ---- where it leads

same_block : (a b : Block) → Some a ≡ Some b → a ≡ b
same_block a b e = cc

-- a label of a block of the function
pub record IsTarget (x : Framing) (label : ℕ) : Type 0 where
  pub there : slice_get (edged x).blocks (position_of (edged x) label)
      ≡ Some (block_at (edged x) (position_of (edged x) label))
  pub own : (block_at (edged x) (position_of (edged x) label)).label ≡ label
  pub labelled : block_labelled (edged x) label ≡ Some (position_of (edged x) label)

-- a suspend stands right before the end of the block
pub record IsSuspending (x : Framing) (k : ℕ) : Type 0 where
  pub at : ℕ
  pub instr : Instr
  pub there : slice_get (instrs_at x k) at ≡ Some instr
  pub calls : is_call_of Intrinsic.CoroSuspend instr ≡ true

position_from : (o : Option ℕ) (k n : ℕ) → unwrap_or o n ≡ k → (k ≡ n → ⊥) → o ≡ Some k
position_from None k n e ne = absurd (ne (sym e))
position_from (Some j) k n e ne = ap Some e

module _ (x : Framing) (is : IsFraming x) (k label : ℕ)
    (here : slice_get (edged x).blocks k ≡ Some (block_at (edged x) k))
    (leads : IsListed label (targets (block_at (edged x) k).term)) where
  abbrev f : Function
  f = edged x

  abbrev b : Block
  b = block_at f k

  abbrev target : ℕ
  target = position_of f label

  block : HasBlock f label
  block =
      target_there x.code is.position f is.frameable.rules.definitions is.frameable.rules.known k b label here leads

  block_same : block_at f target ≡ block.block
  block_same = block_is f target block.block block.there

  no_blocks : (n : ℕ) → target ≡ n → n ≡ length f.blocks → ⊥
  no_blocks n e d = past f.blocks n d block.block (ap (slice_get f.blocks) (sym e) ∙ block.there)
    where
      past : (bs : List Block) (n : ℕ) → n ≡ length bs → (c : Block) → slice_get bs n ≡ Some c → ⊥
      past bs n d c e =
          let lt = Rattle.pass_frames_proof.proofs.ir_laws.facts.Lists.get_within bs n c e in
          omega (arith, d, lt)

  pub is_target : IsTarget x label
  is_target = record {
    there = block.there ∙ ap Some (sym block_same);
    own = ap (λ (c : Block). c.label) block_same ∙ block.is_label;
    labelled = position_from (block_labelled f label) target (length f.blocks) refl (λ e. no_blocks target refl e);
  }

  pub not_entry : target ≡ 0 → ⊥
  not_entry e = none_enters x.code is.position f is.frameable.rules k b label here leads e

  label_is : (block_at f target).label ≡ label
  label_is = is_target.own

  -- a block of a suspend alone leads to a block on a resume or destroy edge
  pub from_suspend : is_return x target ≡ true → IsSuspending x k
  from_suspend d =
      let q = leads_again f (block_at f target).label d in
      let edges : HasOwnEdges f q.suspend =
      of_listed (HasOwnEdges f) (suspends_of f) is.frameable.edges q.suspend q.listed in
      let led : IsLedToBy f (block_at f target).label q.suspend.block =
      ⊎_elim (λ e. subst (λ (n : ℕ). IsLedToBy f n q.suspend.block) e edges.resume)
      (λ e. subst (λ (n : ℕ). IsLedToBy f n q.suspend.block) e edges.destroy) q.leads in
      let from : IsListed b.label (q.suspend.block ∷ []) =
      subst (IsListed b.label) (led.sources)
      (to_predecessors f (block_at f target).label b (listed_at f.blocks k b here)
      (subst (λ (n : ℕ). IsListed n (targets b.term)) (sym label_is) leads)) in
      let same : b.label ≡ q.suspend.block = ⊎_elim (λ e. e) (λ n. absurd n) from in
      let p = point_from f q.suspend q.listed in
      let one : position_of f b.label ≡ k = own_label is.position f is.frameable.rules.definitions k b here in
      let two : position_of f p.block.label ≡ p.position =
      own_label is.position f is.frameable.rules.definitions p.position p.block p.got in
      let at : p.position ≡ k = sym two ∙ ap (position_of f) (sym p.is_of.block ∙ sym same) ∙ one in
      let both : p.block ≡ b =
      same_block p.block b (sym p.got ∙ ap (slice_get f.blocks) at ∙ here) in
      record {
        at = p.at;
        instr = p.instr;
        there = ap (λ (c : Block). slice_get c.instrs p.at) (sym both) ∙ p.there;
        calls = p.suspends;
      }

-- ---- blocks on resume and destroy edges

-- each is a jump alone
pub record IsBare (x : Framing) (k : ℕ) : Type 0 where
  pub no_instrs : instrs_at x k ≡ []
  pub no_phis : (block_at (edged x) k).phis ≡ []
  pub next : ℕ
  pub jump : (block_at (edged x) k).term ≡ Terminator.Jump next

module _ (x : Framing) (is : IsFraming x) (own : HaveOwnReturns (edged x)) (k : ℕ)
    (there : slice_get (edged x).blocks k ≡ Some (block_at (edged x) k)) (returned : is_return x k ≡ true) where
  pub bare : IsBare x k
  bare =
      let b : Block = block_at (edged x) k in
      let block : IsOwnBlock (edged x) b.label = own.own b.label (resumed_listed (edged x) b.label returned) in
      let at : position_of (edged x) b.label ≡ k =
      own_label is.position (edged x) is.frameable.rules.definitions k b there in
      let same : block.block ≡ b =
      same_block block.block b (sym block.got ∙ ap (slice_get (edged x).blocks) at ∙ there) in
      record {
        no_instrs = ap (λ (c : Block). c.instrs) (sym same) ∙ block.no_instrs;
        no_phis = ap (λ (c : Block). c.phis) (sym same) ∙ block.no_phis;
        next = block.next;
        jump = ap (λ (c : Block). c.term) (sym same) ∙ block.jump;
      }

  pub bare_jump : (label : ℕ) × ((block_at (edged x) k).term ≡ Terminator.Jump label)
  bare_jump = (bare.next, bare.jump)
