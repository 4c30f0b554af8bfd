-- In a function into which instructions are woven nothing is needed behind a suspend but what was needed there before.
use Rattle.std.proofs.Common.{◌≡◌, inl, inr, ⊎_elim, ℕ, zero, suc, ◌+◌, ◌<◌, ◌≤◌, Bool, true, false, List, [], ◌∷◌, ◌++◌, length, refl, sym, ap, ◌∙◌, subst, arith}
use Rattle.std.proofs.lemmas.Bool.{cases_lt}
use Rattle.std.specs.List.{list_any}
use Rattle.std.specs.Prelude.{None, Option, Some, map, not, option_to_list, slice_get, ◌&&◌, ◌||◌}
use Rattle.pass_fetch_proof.specs.flow_blocks.Edges.{block_edges, edges_of_blocks}
use Rattle.pass_fetch_proof.specs.flow_blocks.Reach.{Edge, IsReached, Start}
use Rattle.pass_fetch_proof.proofs.rule_laws.frames.crossing.Defined.{switch_leads}
use Rattle.pass_fetch_proof.proofs.rule_laws.frames.crossing.Entries.{none_enters, not_entered}
use Rattle.pass_fetch_proof.proofs.rule_laws.frames.crossing.NewUses.{new_unneeded}
use Rattle.pass_fetch_proof.proofs.rule_laws.frames.crossing.Paths.{point_found, point_there}
use Rattle.pass_fetch_proof.proofs.rule_laws.frames.crossing.Values.{old_value}
use Rattle.pass_fetch_proof.proofs.early.unused_frames.Flags.{IsFrame}
use Rattle.pass_fetch_proof.proofs.ir_laws.paths.unused.Standing.{stands_at}
use Rattle.pass_fetch_proof.specs.rule_laws.frames.crossing.Crossed.{IsNothingNeeded}
use Rattle.pass_fetch_proof.specs.ir_laws.facts.crossing.Crossed.{is_switch}
use Rattle.pass_fetch_proof.specs.rule_laws.frames.needed.Crossed.{AreFramesUnneeded}
use Rattle.pass_fetch_proof.specs.rule_uses.Undefined.{params_of}
use Rattle.pass_fetch_proof.specs.rule_uses.Uses.{block_values, local_of, locals_in, made_by_phis, phi_values, values_at}
use Rattle.pass_fetch_proof.proofs.rule_laws.rules.local_rules.Names.{numbers}
use Rattle.pass_fetch_proof.proofs.rule_laws.rules.source_rules.Locals.{block_names, made_by}
use Rattle.pass_fetch_proof.proofs.ir_laws.paths.source_rules.Locals.{in_row, listed_either, listed_left, listed_right}
use Rattle.pass_fetch_proof.proofs.ir_laws.facts.Lists.{phi_names, row_of}
use Rattle.pass_fetch_proof.proofs.rule_laws.rules.counted.DefinedKinds.{made_in}
use Rattle.pass_fetch_proof.proofs.edges.rules.EdgeUses.{label_there}
use Rattle.pass_fetch_proof.proofs.edges.rules.Switched.{switched}
use Rattle.pass_fetch_proof.specs.flow_solver.Paths.{IsListed}
use Rattle.pass_fetch_proof.proofs.rule_laws.frames.needed.Follows.{Follows, IsBlockLike, IsLike, IsTermLike, needed_from}
use Rattle.pass_fetch_proof.proofs.rule_laws.frames.needed.Others.{IsOther, frame_other, value_other}
use Rattle.pass_exits_proof.proofs.split.crossing.Ways.{IsWay, comes_from, leads_same, way_end, way_position, woven_ways}
use Rattle.pass_fetch_proof.proofs.edges.calls.Fetched.{call_suspends}
use Rattle.pass_fetch_proof.proofs.rule_laws.frames.shape.Points.{HasPoint, point_there as suspend_there}
use Rattle.pass_fetch_proof.specs.ir_parts.Contents.{ending_operands, result_of}
use Rattle.pass_fetch_proof.specs.rule_laws.rules.function_rules.Kept.{KeepsFunctionRules}
use Rattle.pass_fetch_proof.specs.pass_intrinsics.Shapes.{suspends_of as suspend_points}
use Rattle.ir_model.specs.Names.{position_of}
use Rattle.ir_model.specs.Ty.{Ty}
use Rattle.ir_model.specs.declared.instr.Incoming.{Incoming}
use Rattle.ir_model.specs.declared.instr.Instr.{Instr}
use Rattle.ir_model.specs.declared.instr.Phi.{Phi}
use Rattle.ir_model.specs.declared.module.Block.{Block}
use Rattle.ir_model.specs.declared.module.Function.{Function}
use Rattle.ir_model.specs.declared.module.Module.{Module}
use Rattle.ir_model.specs.declared.operand.Arg.{Arg}
use Rattle.ir_model.specs.declared.operand.Callee.{Callee}
use Rattle.ir_model.specs.declared.operand.Intrinsic.{Intrinsic}
use Rattle.ir_model.specs.declared.operand.Operand.{Operand}
use Rattle.pass_fetch_proof.specs.ir_paths.Windows.{instr_at, instr_in, is_call_of, label_at, label_of_term}
use Rattle.pass_fetch_proof.specs.ir_paths.declared.point.Point.{Point}
use Rattle.pass_fetch_proof.specs.rule_laws.frames.replaced.Splittable.{HasOwnEdges, IsLedToBy}
use Rattle.pass_fetch_proof.specs.frame_crossing.Crossing.{suspends_of}
use Rattle.pass_fetch_proof.specs.frame_crossing.EdgeUses.{blocks_uses, edge_use, incoming_uses, phis_uses, uses_by}
use Rattle.pass_fetch_proof.specs.frame_crossing.Paths.{IsNeededBehind, IsNeededFrom, phis_at, phis_in}
use Rattle.pass_fetch_proof.specs.frame_crossing.Values.{values_of}
use Rattle.pass_fetch_proof.specs.frame_crossing.declared.edge_use.EdgeUse.{EdgeUse}
use Rattle.pass_fetch_proof.proofs.rule_laws.rules.woven_rules.Once.{names_below}
use Rattle.pass_fetch_proof.proofs.rule_laws.rules.woven_rules.Operands.{term_pairs}
use Rattle.pass_fetch_proof.proofs.ir_laws.paths.woven_rules.Unbroken.{of_listed}
use Rattle.pass_fetch_proof.proofs.rule_laws.rules.woven_rules.Uses.{same_made}
use Rattle.pass_fetch_proof.proofs.rule_laws.rules.woven_rules.ValueKinds.{none_new}
use Rattle.pass_fetch_proof.specs.rule_laws.rules.woven_rules.Blocks.{AreWovenBlocks, Done, Gone, IsPutIn, IsWoven, IsWovenBlock, Kept, MayGo, NoBlock, OneBlock, Put, Remain, Stays, Unpromised, WeavesAll, may_stand}
use Rattle.pass_fetch_proof.specs.ir_laws.facts.woven_rules.Pairs.{Empty, Pair, Pairwise}
use Rattle.pass_fetch_proof.specs.rule_laws.rules.woven_rules.Parts.{Call, Direct, IncomingStays, Indirect, InstrStays, PhiStays}
use Rattle.pass_fetch_proof.specs.rule_laws.rules.woven_rules.Weaving.{Fetched, IsInPlace, Same, Weaving}
use Rattle.pass_fetch_proof.specs.rule_laws.frames.woven_shape.Shaped.{IsShaped, KeepsCalls}
use Rattle.pass_fetch_proof.proofs.ir_laws.paths.crossing.NewUses.{some_local}
use Rattle.pass_fetch_proof.proofs.ir_laws.paths.needed.Steps.{label_same}

-- ---- instructions that pass a test

record PassesAt (t : Instr → Bool) (is : List Instr) : Type 0 where
  at : ℕ
  instr : Instr
  there : slice_get is at ≡ Some instr
  passes : t instr ≡ true

passing : (t : Instr → Bool) (is : List Instr) → list_any t is ≡ true → PassesAt t is
passing t [] h = absurd (cc)
passing t (i ∷ is) h = on (t i) refl h (passing t is)
  where
    on : (b : Bool) → t i ≡ b → (b || list_any t is) ≡ true → (list_any t is ≡ true → PassesAt t is) → PassesAt t (i ∷ is)
    on true e k rest = record { at = 0; instr = i; there = refl; passes = e }
    on false e k rest = let r = rest k in record { at = suc r.at; instr = r.instr; there = r.there; passes = r.passes }

any_at : (t : Instr → Bool) (is : List Instr) (j : ℕ) (i : Instr) → slice_get is j ≡ Some i → t i ≡ true → list_any t is ≡ true
any_at t [] j i e h = absurd (cc)
any_at t (x ∷ is) zero i e h = let one : x ≡ i = cc in ap (λ (b : Bool). b || list_any t is) (ap t one ∙ h)
any_at t (x ∷ is) (suc j) i e h = ap (λ (b : Bool). t x || b) (any_at t is j i e h) ∙ or_true (t x)
  where
    or_true : (b : Bool) → (b || true) ≡ true
    or_true true = refl
    or_true false = refl

-- ---- calls of coro.frame among woven instructions

record FrameAt (v : ℕ) (is : List Instr) : Type 0 where
  at : ℕ
  instr : Instr
  there : slice_get is at ≡ Some instr
  makes : IsFrame v instr

frame_in : (Puts : List ℕ → Instr → Type 0) (Goes : Instr → Type 0) (Remains : List ℕ → Instr → Instr → Type 0) (v : ℕ) → ((made : List ℕ) (j : Instr) → Puts made j → IsFrame v j → ⊥) → ((made : List ℕ) (i j : Instr) → Remains made i j → IsFrame v j → IsFrame v i)
    → (made : List ℕ) (is js : List Instr) → WeavesAll Puts Goes Remains made is js → (at : ℕ) (j : Instr) → slice_get js at ≡ Some j → IsFrame v j → FrameAt v is
frame_in Puts Goes Remains v puts stays _ _ _ (Done made) at j e h = absurd (cc)
frame_in Puts Goes Remains v puts stays _ _ _ (Put made x is js new rest) zero j e h = let same : x ≡ j = cc in absurd (puts made x new (subst (IsFrame v) (sym same) h))
frame_in Puts Goes Remains v puts stays _ _ _ (Put made x is js new rest) (suc at) j e h = frame_in Puts Goes Remains v puts stays (option_to_list (result_of x) ++ made) is js rest at j e h
frame_in Puts Goes Remains v puts stays _ _ _ (Gone made i is js goes rest) at j e h =
    let x = frame_in Puts Goes Remains v puts stays made is js rest at j e h in
    record { at = suc x.at; instr = x.instr; there = x.there; makes = x.makes }
frame_in Puts Goes Remains v puts stays _ _ _ (Remain made i x is js same rest) zero j e h =
    let one : x ≡ j = cc in
    record { at = 0; instr = i; there = refl; makes = stays made i x same (subst (IsFrame v) (sym one) h) }
frame_in Puts Goes Remains v puts stays _ _ _ (Remain made i y is js same rest) (suc at) j e h =
    let x = frame_in Puts Goes Remains v puts stays (option_to_list (result_of y) ++ made) is js rest at j e h in
    record { at = suc x.at; instr = x.instr; there = x.there; makes = x.makes }

no_copy : (block : ℕ) (j : Instr) → may_stand block j ≡ true → is_call_of Intrinsic.CoroFrame j ≡ true → ⊥
no_copy block (Instr.Call r must_tail ty (Callee.Intrinsic Intrinsic.CoroFrame) args) e h = no_second (not must_tail) e
  where
    no_second : (b : Bool) → (b && false) ≡ true → ⊥
    no_second true d = absurd (cc)
    no_second false d = absurd (cc)
no_copy block _ e h = absurd (cc)

puts_no_frame : (w : Weaving) (m : Module) (f : Function) (block v : ℕ) (made : List ℕ) (j : Instr) → IsPutIn w m f block made j → IsFrame v j → ⊥
puts_no_frame w m f block v made j put h = no_copy block j put.stands h.calls

same_call : (r : Option ℕ) (must_tail : Bool) (ty : Option Ty) (c : Callee) (args now : List Arg) → is_call_of Intrinsic.CoroFrame (Instr.Call r must_tail ty c args) ≡ is_call_of Intrinsic.CoroFrame (Instr.Call r must_tail ty c now)
same_call r must_tail ty (Callee.Intrinsic x) args now = refl
same_call r must_tail ty (Callee.Named n) args now = refl
same_call r must_tail ty (Callee.Allocator a) args now = refl
same_call r must_tail ty (Callee.Local u) args now = refl

kept_frame : (R : Operand → Operand → Type 0) (v : ℕ) (i j : Instr) → InstrStays R i j → IsFrame v j → IsFrame v i
kept_frame R v _ _ (Call r must_tail ty c d args now (Direct _ direct) rest) h = record { calls = same_call r must_tail ty c args now ∙ h.calls; makes = h.makes }
kept_frame R v _ _ (Call r must_tail ty c d args now (Indirect u n same) rest) h = let bad : false ≡ true = h.calls in absurd (cc)
kept_frame R v _ _ _ h = let bad : false ≡ true = h.calls in absurd (cc)

stays_frame : (w : Weaving) (f : Function) (v : ℕ) (made : List ℕ) (i j : Instr) → Stays w f made i j → IsFrame v j → IsFrame v i
stays_frame w f v made _ _ (Kept i j same mark) h = kept_frame (IsInPlace w f made) v i j same h
stays_frame w f v made _ _ (Unpromised r must_tail ty a p args rest) h = let bad : false ≡ true = h.calls in absurd (cc)

-- ---- where an old value is used

module _ (w : Weaving) (m : Module) (f g : Function) (woven : IsWoven w m f g) (same_calls : KeepsCalls w f g) where
  abbrev ways : Pairwise IsWay f.blocks g.blocks
  ways = woven_ways w m f g 0 f.blocks g.blocks woven.blocks same_calls.calls

  position : (label : ℕ) → position_of g label ≡ position_of f label
  position = way_position f g ways

  record WovenAt (bs : List Block) (at q : ℕ) (c : Block) : Type 0 where
    block : Block
    got : slice_get bs q ≡ Some block
    is : IsWovenBlock w m f g at block c

  woven_in : (at : ℕ) (bs cs : List Block) → AreWovenBlocks w m f g at bs cs → (q : ℕ) (c : Block) → slice_get cs q ≡ Some c → WovenAt bs (at + q) q c
  woven_in at _ _ (NoBlock _) q c e = absurd (cc)
  woven_in at _ _ (OneBlock _ b d bs cs h rest) zero c e =
      let one : d ≡ c = cc in
      let same : at ≡ at + 0 = omega arith in
      record { block = b; got = refl; is = subst (λ (n : ℕ). IsWovenBlock w m f g n b c) same (subst (IsWovenBlock w m f g at b) one h) }
  woven_in at _ _ (OneBlock _ b d bs cs h rest) (suc q) c e =
      let x = woven_in (at + 1) bs cs rest q c e in
      let same : at + 1 + q ≡ at + suc q = omega arith in
      record { block = x.block; got = x.got; is = subst (λ (n : ℕ). IsWovenBlock w m f g n x.block c) same x.is }

  woven_at : (q : ℕ) (c : Block) → slice_get g.blocks q ≡ Some c → WovenAt f.blocks q q c
  woven_at q c e =
      let same : 0 + q ≡ q = omega arith in
      subst (λ (n : ℕ). WovenAt f.blocks n q c) same (woven_in 0 f.blocks g.blocks woven.blocks q c e)

  record GoesTo (at : ℕ) (cs : List Block) (q : ℕ) : Type 0 where
    block : Block
    got : slice_get cs q ≡ Some block

  goes_to : (at : ℕ) (bs cs : List Block) → AreWovenBlocks w m f g at bs cs → (q : ℕ) (b : Block) → slice_get bs q ≡ Some b → GoesTo at cs q
  goes_to at _ _ (NoBlock _) q b e = absurd (cc)
  goes_to at _ _ (OneBlock _ c d bs cs h rest) zero b e = record { block = d; got = refl }
  goes_to at _ _ (OneBlock _ c d bs cs h rest) (suc q) b e = let x = goes_to (at + 1) bs cs rest q b e in record { block = x.block; got = x.got }

  none_in : (at : ℕ) (bs cs : List Block) → AreWovenBlocks w m f g at bs cs → (q : ℕ) → slice_get bs q ≡ None → slice_get cs q ≡ None
  none_in at _ _ (NoBlock _) q e = refl
  none_in at _ _ (OneBlock _ c d bs cs h rest) zero e = absurd (cc)
  none_in at _ _ (OneBlock _ c d bs cs h rest) (suc q) e = none_in (at + 1) bs cs rest q e

  phis_in_same : (at : ℕ) (bs cs : List Block) → AreWovenBlocks w m f g at bs cs → (q : ℕ) → phis_in (slice_get cs q) ≡ phis_in (slice_get bs q)
  phis_in_same at _ _ (NoBlock _) q = refl
  phis_in_same at _ _ (OneBlock _ c d bs cs h rest) zero = same_made (λ (from : ℕ). IsInPlace w f (values_at g (position_of g from))) [] c.phis d.phis h.phis
  phis_in_same at _ _ (OneBlock _ c d bs cs h rest) (suc q) = phis_in_same (at + 1) bs cs rest q

  pub phis_same : (q : ℕ) → phis_at g q ≡ phis_at f q
  phis_same q = phis_in_same 0 f.blocks g.blocks woven.blocks q

  -- ---- edges

  edges_in : (at n : ℕ) (bs cs : List Block) → AreWovenBlocks w m f g n bs cs → Pairwise IsWay bs cs → edges_of_blocks g at cs ≡ edges_of_blocks f at bs
  edges_in at n _ _ (NoBlock _) e = refl
  edges_in at n _ _ (OneBlock _ b c bs cs h rest) (Pair _ _ _ _ s more) = λ k. map {B = ℕ × ℕ} (λ to. (at, to)) (map (λ label. position label k) (s.leads k)) ++ edges_in (at + 1) (n + 1) bs cs rest more k

  same_edges : block_edges g ≡ block_edges f
  unfolding block_edges
  same_edges = edges_in 0 0 f.blocks g.blocks woven.blocks ways

  pub reached_back : (q : ℕ) → IsReached g (0 ∷ []) [] q → IsReached f (0 ∷ []) [] q
  reached_back _ (Start q l) = Start q l
  reached_back _ (Edge from to path edge away) = Edge from to (reached_back from path) (subst (λ (es : List (ℕ × ℕ)). IsListed {X = ℕ × ℕ} (from, to) es) same_edges edge) away

  -- ---- an old value

  module _ (v : ℕ) (old : v < w.first) where
    old_place : (made : List ℕ) (x y : Operand) → IsInPlace w f made x y → local_of y ≡ Some v → local_of x ≡ Some v
    old_place made _ _ (Same x stays) e = e
    old_place made _ _ (Fetched u n low l kind) e = let same : n ≡ v = cc in absurd (omega (arith, same, low, old))

    old_pairs : (made : List ℕ) (xs ys : List Operand) → Pairwise (IsInPlace w f made) xs ys → IsListed v (locals_in ys) → IsListed v (locals_in xs)
    old_pairs made _ _ Empty l = l
    old_pairs made _ _ (Pair x y xs ys h rest) l =
        ⊎_elim
        (λ a. listed_left v (option_to_list (local_of x)) (locals_in xs) (subst (λ (o : Option ℕ). IsListed v (option_to_list o)) (sym (old_place made x y h (some_local (local_of y) v a))) (inl refl)))
        (λ b. listed_right v (option_to_list (local_of x)) (locals_in xs) (old_pairs made xs ys rest b))
        (listed_either v (option_to_list (local_of y)) (locals_in ys) l)

    abbrev Place : ℕ → Operand → Operand → Type 0
    Place from = IsInPlace w f (values_at g (position_of g from))

    used_incoming : (at from to : ℕ) (is js : List Incoming) → Pairwise (IncomingStays Place) is js → IsListed (edge_use from to v) (incoming_uses g at js) → IsListed (edge_use from to v) (incoming_uses f at is)
    used_incoming at from to _ _ Empty l = l
    used_incoming at from to _ _ (Pair i j is js h rest) l =
        ⊎_elim (λ a. listed_left (edge_use from to v) (uses_by (position_of f i.from) at (local_of i.value)) (incoming_uses f at is) (own (local_of j.value) refl a))
        (λ r. listed_right (edge_use from to v) (uses_by (position_of f i.from) at (local_of i.value)) (incoming_uses f at is) (used_incoming at from to is js rest r))
        (listed_either (edge_use from to v) (uses_by (position_of g j.from) at (local_of j.value)) (incoming_uses g at js) l)
      where
        own : (o : Option ℕ) → local_of j.value ≡ o → IsListed (edge_use from to v) (uses_by (position_of g j.from) at o) → IsListed (edge_use from to v) (uses_by (position_of f i.from) at (local_of i.value))
        own None e x = absurd x
        own (Some u) e (inr x) = absurd x
        own (Some u) e (inl same) =
            let value_is : u ≡ v = ap (λ (y : EdgeUse). y.value) (sym same) in
            let there : local_of i.value ≡ Some v = old_place (values_at g (position_of g i.from)) i.value j.value h.value (e ∙ ap (λ (y : ℕ). Some y) value_is) in
            let from_is : position_of g j.from ≡ position_of f i.from = position j.from ∙ ap (position_of f) h.from in
            let again : edge_use from to v ≡ edge_use (position_of f i.from) at v = same ∙ (λ k. edge_use (from_is k) at (value_is k)) in
            subst (λ (o : Option ℕ). IsListed (edge_use from to v) (uses_by (position_of f i.from) at o)) (sym there) (inl again)

    used_phis : (at from to : ℕ) (ps qs : List Phi) → Pairwise (PhiStays Place) ps qs → IsListed (edge_use from to v) (phis_uses g at qs) → IsListed (edge_use from to v) (phis_uses f at ps)
    used_phis at from to _ _ Empty l = l
    used_phis at from to _ _ (Pair p q ps qs h rest) l =
        ⊎_elim (λ a. listed_left (edge_use from to v) (incoming_uses f at p.incoming) (phis_uses f at ps) (used_incoming at from to p.incoming q.incoming h.incoming a))
        (λ r. listed_right (edge_use from to v) (incoming_uses f at p.incoming) (phis_uses f at ps) (used_phis at from to ps qs rest r))
        (listed_either (edge_use from to v) (incoming_uses g at q.incoming) (phis_uses g at qs) l)

    used_blocks : (at n from to : ℕ) (bs cs : List Block) → AreWovenBlocks w m f g n bs cs → IsListed (edge_use from to v) (blocks_uses g at cs) → IsListed (edge_use from to v) (blocks_uses f at bs)
    used_blocks at n from to _ _ (NoBlock _) l = l
    used_blocks at n from to _ _ (OneBlock _ b c bs cs h rest) l =
        ⊎_elim (λ a. listed_left (edge_use from to v) (phis_uses f at b.phis) (blocks_uses f (at + 1) bs) (used_phis at from to b.phis c.phis h.phis a))
        (λ r. listed_right (edge_use from to v) (phis_uses f at b.phis) (blocks_uses f (at + 1) bs) (used_blocks (at + 1) (n + 1) from to bs cs rest r))
        (listed_either (edge_use from to v) (phis_uses g at c.phis) (blocks_uses g (at + 1) cs) l)

    term_like : (q : ℕ) (b c : Block) → IsWovenBlock w m f g q b c → IsTermLike v b.term c.term
    term_like q b c h = record {
      uses = old_pairs (block_values c) (ending_operands b.term) (ending_operands c.term) (term_pairs (IsInPlace w f (block_values c)) b.term c.term h.term);
      leads = (leads_same (IsInPlace w f (block_values c)) b.term c.term h.term);
    }

    module _ (k : ℕ) (rules : KeepsFunctionRules m k f) (follows : (q : ℕ) (b c : Block) → slice_get f.blocks q ≡ Some b → slice_get g.blocks q ≡ Some c → (q ≡ 0 → ⊥) → Follows v b.instrs c.instrs) where
      block_like : (q : ℕ) (b : Block) → slice_get f.blocks q ≡ Some b → (q ≡ 0 → ⊥) → IsBlockLike v g q b
      block_like q b got other =
          let x = goes_to 0 f.blocks g.blocks woven.blocks q b got in
          let y = woven_at q x.block x.got in
          let both : Some y.block ≡ Some b = sym y.got ∙ got in
          let one : y.block ≡ b = cc in
          record { block = x.block; got = x.got; follows = follows q b x.block got x.got other; term = term_like q b x.block (subst (λ (d : Block). IsWovenBlock w m f g q d x.block) one y.is) }

      like : IsLike v f g
      like = record {
        position = position;
        end = way_end f g ways;
        blocks = block_like;
        none = λ q e. none_in 0 f.blocks g.blocks woven.blocks q e;
        edges = λ from to l. used_blocks 0 0 from to f.blocks g.blocks woven.blocks l;
        phis = phis_same;
        entered = not_entered m k f rules;
      }

  -- ---- a call of coro.frame in the result is one of the function

  pub record FrameBefore (v : ℕ) : Type 0 where
    pub point : Point
    pub instr : Instr
    pub there : instr_at f point ≡ Some instr
    pub makes : IsFrame v instr
    pub block : Block
    pub got : slice_get f.blocks point.block ≡ Some block

  pub frame_back : (v : ℕ) (p : Point) (i : Instr) → instr_at g p ≡ Some i → IsFrame v i → FrameBefore v
  frame_back v p i there h =
      let x = stands_at g p i there in
      let y = woven_at p.block x.block x.got in
      let z = frame_in (IsPutIn w m f p.block) (MayGo w) (Stays w f) v (puts_no_frame w m f p.block v) (stays_frame w f v) (phi_values x.block) y.block.instrs x.block.instrs y.is.instrs p.at i x.there h in
      record { point = record { block = p.block; at = z.at }; instr = z.instr; there = ap (λ (o : Option Block). instr_in o z.at) y.got ∙ z.there; makes = z.makes; block = y.block; got = y.got }

  pub frame_named : (v : ℕ) → FrameBefore v → IsListed v (numbers f)
  frame_named v y =
      let z = stands_at f y.point y.instr y.there in
      listed_right v (params_of f) (row_of block_names f.blocks)
      (in_row block_names f.blocks y.point.block v z.block z.got
      (inr (listed_right v (phi_names z.block.phis) (row_of made_by z.block.instrs) (in_row made_by z.block.instrs y.point.at v y.instr z.there (made_in y.instr v y.makes.makes)))))

  -- ---- a suspend of the result is one of the function

  module _ (k : ℕ) (rules : KeepsFunctionRules m k f) (coroutine : f.coroutine ≡ true) (begin : ℕ) (shape : IsShaped k f begin) where
    pub record SuspendAt (s : Point) : Type 0 where
      pub block : Block
      pub got : slice_get f.blocks s.block ≡ Some block
      pub at : ℕ
      pub instr : Instr
      pub there : slice_get block.instrs at ≡ Some instr
      pub suspends : is_call_of Intrinsic.CoroSuspend instr ≡ true
      pub listed : IsListed (record { block = s.block; at = at }) (suspends_of f)
      pub labels : (n : ℕ) → label_at n (slice_get g.blocks s.block) ≡ label_of_term n block.term

    pub suspend_at : (s : Point) → IsListed s (suspends_of g) → SuspendAt s
    suspend_at s l =
        let x = point_found (is_call_of Intrinsic.CoroSuspend) g s l in
        let same : s.block ≡ x.position = (let e : s.block ≡ 0 + x.position = x.is_block in omega (arith, e)) in
        let there : slice_get g.blocks s.block ≡ Some x.block = ap (slice_get g.blocks) same ∙ x.got in
        let z = woven_at s.block x.block there in
        let y = comes_from f.blocks g.blocks ways s.block x.block there in
        let both : Some z.block ≡ Some y.block = sym z.got ∙ y.got in
        let one : z.block ≡ y.block = cc in
        let called : list_any (is_call_of Intrinsic.CoroSuspend) y.block.instrs ≡ true = sym y.way.suspends ∙ any_at (is_call_of Intrinsic.CoroSuspend) x.block.instrs s.at x.instr x.there x.passes in
        let at = passing (is_call_of Intrinsic.CoroSuspend) y.block.instrs called in
        record {
          block = y.block;
          got = y.got;
          at = at.at;
          instr = at.instr;
          there = at.there;
          suspends = at.passes;
          listed = point_there (is_call_of Intrinsic.CoroSuspend) f s.block y.block at.at at.instr y.got at.there at.passes;
          labels = λ n. ap (label_at n) there ∙ label_same (IsInPlace w f (block_values x.block)) n z.block.term x.block.term z.is.term ∙ ap (λ (d : Block). label_of_term n d.term) one;
        }

    module _ (s : Point) (x : SuspendAt s) where
      abbrev before : Point
      before = record { block = s.block; at = x.at }

      switch : is_switch x.block.term ≡ true
      switch = ap is_switch (switched k f coroutine shape.switches s.block x.at x.block x.instr x.got x.there (call_suspends x.instr x.suspends)).is

      away : (n : ℕ) → position_of f (label_of_term n x.block.term) ≡ 0 → ⊥
      away n e = none_enters m k f rules s.block x.block (label_of_term n x.block.term) x.got (switch_leads n x.block.term switch) e

      bare_there : (label from : ℕ) → IsLedToBy f label from → phis_at f (position_of f label) ≡ []
      bare_there label from h = on (slice_get f.blocks (position_of f label)) refl
        where
          on : (o : Option Block) → slice_get f.blocks (position_of f label) ≡ o → phis_at f (position_of f label) ≡ []
          on None e = ap phis_in e
          on (Some b) e = ap phis_in e ∙ ap (λ (ps : List Phi). made_by_phis [] ps) (h.phis (position_of f label) b e (label_there f label (position_of f label) b refl e))

      own : HasPoint (suspend_points f) x.block
      own = suspend_there f s.block x.block x.got x.at x.instr x.there x.suspends

      own_edges : HasOwnEdges f own.point
      own_edges = of_listed (HasOwnEdges f) (suspend_points f) shape.edges own.point own.listed

      bare_resume : phis_at f (position_of f (label_of_term 0 x.block.term)) ≡ []
      bare_resume = ap (λ (n : ℕ). phis_at f (position_of f n)) (sym own.is_of.resume) ∙ bare_there own.point.resume own.point.block own_edges.resume

      bare_destroy : phis_at f (position_of f (label_of_term 1 x.block.term)) ≡ []
      bare_destroy = ap (λ (n : ℕ). phis_at f (position_of f n)) (sym own.is_of.destroy) ∙ bare_there own.point.destroy own.point.block own_edges.destroy

      bare_now : (n : ℕ) → phis_at f (position_of f (label_of_term n x.block.term)) ≡ [] → phis_at g (position_of g (label_at n (slice_get g.blocks s.block))) ≡ []
      bare_now n bare = phis_same (position_of g (label_at n (slice_get g.blocks s.block))) ∙ ap (phis_at f) (position (label_at n (slice_get g.blocks s.block)) ∙ ap (position_of f) (x.labels n)) ∙ bare

      -- a new value but a front is needed behind no suspend
      new_not : (v : ℕ) → w.first ≤ v → (IsListed v w.fronts → ⊥) → IsNeededBehind g v s → ⊥
      new_not v new no_front needed =
          let low : length f.names ≤ v = subst (λ (n : ℕ). n ≤ v) woven.first new in
          new_unneeded m k f rules v low w g woven (none_new w m f g v new (λ u l. subst (λ (n : ℕ). u < n) (sym woven.first) (names_below k f rules.tabled u l))) no_front s (bare_now 0 bare_resume) (bare_now 1 bare_destroy) needed

      -- an old one was needed behind it
      old_needed : (v : ℕ) (old : v < w.first) → ((q : ℕ) (b c : Block) → slice_get f.blocks q ≡ Some b → slice_get g.blocks q ≡ Some c → (q ≡ 0 → ⊥) → Follows v b.instrs c.instrs) → IsNeededBehind g v s → IsNeededBehind f v before
      old_needed v old follows (inl h) = inl (way 0 h)
        where
          way : (n : ℕ) → IsNeededFrom g v s.block (label_at n (slice_get g.blocks s.block)) → IsNeededFrom f v s.block (label_at n (slice_get f.blocks s.block))
          way n r =
              subst (IsNeededFrom f v s.block) (sym (ap (label_at n) x.got))
              (needed_from v f g (like v old k rules follows) s.block (label_of_term n x.block.term) (away n) (subst (IsNeededFrom g v s.block) (x.labels n) r))
      old_needed v old follows (inr h) = inr (way 1 h)
        where
          way : (n : ℕ) → IsNeededFrom g v s.block (label_at n (slice_get g.blocks s.block)) → IsNeededFrom f v s.block (label_at n (slice_get f.blocks s.block))
          way n r =
              subst (IsNeededFrom f v s.block) (sym (ap (label_at n) x.got))
              (needed_from v f g (like v old k rules follows) s.block (label_of_term n x.block.term) (away n) (subst (IsNeededFrom g v s.block) (x.labels n) r))

    -- ---- so nothing is needed where nothing was

    -- instructions that are put in don't use a value that neither begin nor an alloca makes, and the fronts are none that may cross
    pub record IsQuiet : Type 0 where
      pub follows : (v : ℕ) → v < w.first → IsOther f v → (q : ℕ) (b c : Block) → slice_get f.blocks q ≡ Some b → slice_get g.blocks q ≡ Some c → (q ≡ 0 → ⊥) → Follows v b.instrs c.instrs
      pub fronts : (v : ℕ) → IsListed v w.fronts → IsListed v (values_of g) → ⊥

    pub nothing_stays : IsQuiet → IsNothingNeeded f → IsNothingNeeded g
    nothing_stays quiet nothing v s l reached is needed =
        let x = suspend_at s l in
        ⊎_elim
        (λ (old : v < w.first).
        let value : IsListed v (values_of f) = old_value w m f g woven v old is in
        nothing v (before s x) x.listed (reached_back s.block reached) value (old_needed s x v old (quiet.follows v old (value_other m k f rules v value)) needed))
        (λ (new : w.first ≤ v). new_not s x v new (λ front. quiet.fronts v front is) needed)
        (cases_lt v w.first)

    pub frames_stay : IsQuiet → AreFramesUnneeded f → AreFramesUnneeded g
    frames_stay quiet unneeded p i v there calls makes s l needed =
        let x = suspend_at s l in
        let y = frame_back v p i there (record { calls = calls; makes = makes }) in
        let own : IsFrame v y.instr = y.makes in
        let low : v < length f.names = names_below k f rules.tabled v (frame_named v y) in
        let old : v < w.first = subst (λ (n : ℕ). v < n) (sym woven.first) low in
        unneeded y.point y.instr v y.there own.calls own.makes (before s x) x.listed (old_needed s x v old (quiet.follows v old (frame_other m k f rules v y.point y.instr y.there own.calls own.makes)) needed)
