-- What the parts of a coroutine define are positions of their tables of names, and so is what a function that is no coroutine defines once it is turned.
use Rattle.std.proofs.Common.{◌≡◌, ⊎_elim, inl, inr, ℕ, ◌+◌, ◌-◌, ◌<◌, ◌≤◌, Bool, true, false, List, [], ◌∷◌, ◌++◌, length, length-append, refl, sym, ap, subst, arith}
use Rattle.std.specs.Prelude.{None, Option, Some, filter, if◌then◌else◌, map}
use Rattle.pass_fetch_proof.specs.ir_base.declared.name.Name.{Name}
use Rattle.pass_split.specs.Parts.{back_blocks, done_block, given_ramp_of, head_blocks, instr_names, later_head, later_part, origins_for, part_blocks, part_names, plain_of, plain_shape, ramp_of}
use Rattle.pass_fetch_proof.specs.pass_front.Front.{allocas_of, is_alloca}
use Rattle.pass_split.specs.Pieces.{is_begin, next_after, pieced_phi, pieces_of}
use Rattle.pass_split.specs.Reached.{is_flagged, kept_block, kept_blocks, kept_phi, pruned, reached}
use Rattle.pass_split.specs.declared.origin.Origin.{Origin}
use Rattle.pass_fetch_proof.specs.rule_uses.Undefined.{params_of}
use Rattle.pass_fetch_proof.proofs.ir_laws.facts.Members.{each_joined, each_filtered}
use Rattle.pass_fetch_proof.proofs.rule_laws.rules.local_rules.Names.{numbers}
use Rattle.pass_fetch_proof.proofs.rule_laws.rules.source_rules.Locals.{block_names, made_by}
use Rattle.pass_fetch_proof.proofs.ir_laws.paths.source_rules.Locals.{listed_either, listed_left, listed_right}
use Rattle.pass_fetch_proof.proofs.ir_laws.facts.Lists.{phi_names, row_of}
use Rattle.pass_fetch_proof.specs.rule_laws.rules.source_rules.Named.{HasTabledLocals}
use Rattle.pass_fetch_proof.specs.flow_solver.Paths.{IsListed}
use Rattle.pass_fetch_proof.specs.frame_layout.declared.layout.Layout.{Layout}
use Rattle.pass_fetch_proof.proofs.rule_laws.rules.function_rules.Tabled.{tabled_by}
use Rattle.pass_fetch_proof.proofs.rule_laws.rules.woven_rules.Once.{names_below}
use Rattle.pass_fetch_proof.specs.pass_intrinsics.Cuts.{goes_on}
use Rattle.pass_fetch_proof.specs.pass_intrinsics.Lowered.{lowered, names_for, names_taken, number_of_save, save_or_none}
use Rattle.pass_fetch_proof.specs.pass_intrinsics.Shapes.{first_name, given_name, index_name, shape_of, slot_name}
use Rattle.pass_fetch_proof.specs.pass_intrinsics.declared.shape.Part.{Part}
use Rattle.pass_fetch_proof.specs.pass_intrinsics.declared.shape.Shape.{Shape}
use Rattle.pass_fetch_proof.specs.pass_intrinsics.declared.shape.SuspendPoint.{SuspendPoint}
use Rattle.ir_model.specs.Ty.{Ty}
use Rattle.ir_model.specs.declared.instr.Instr.{Instr}
use Rattle.ir_model.specs.declared.instr.Phi.{Phi}
use Rattle.ir_model.specs.declared.instr.Terminator.{Terminator}
use Rattle.ir_model.specs.declared.module.Block.{Block}
use Rattle.ir_model.specs.declared.module.Function.{Function}
use Rattle.ir_model.specs.declared.module.Module.{Module}
use Rattle.ir_model.specs.declared.operand.Arg.{Arg}
use Rattle.ir_model.specs.declared.operand.Callee.{Callee}
use Rattle.ir_model.specs.declared.operand.Intrinsic.{Intrinsic}
use Rattle.pass_fetch_proof.proofs.ir_laws.paths.edges.Lists.{listed_at}
use Rattle.pass_exits_proof.proofs.split.edges.Targets.{instr_names_long, names_are_long, tabled_label}
use Rattle.pass_exits_proof.proofs.split.uses.Assembled.{ok}
use Rattle.pass_exits_proof.proofs.split.uses.Rules.{begin_named, begin_there}
use Rattle.pass_fetch_proof.proofs.rule_laws.rules.short_names.Sources.{results_below}
use Rattle.pass_fetch_proof.proofs.rule_laws.frames.turned.Turned.{AreTurned, NoneTurned, OneTurned}
use Rattle.pass_fetch_proof.proofs.rule_laws.rules.turned.Turned.{IsOuter}
use Rattle.pass_exits_proof.proofs.split.rules.Cutting.{cut_blocks}
use Rattle.pass_exits_proof.proofs.split.rules.GivenParams.{given_params_are}
use Rattle.pass_exits_proof.proofs.split.rules.Parted.{rises}
use Rattle.pass_exits_proof.specs.split.rules.Parted.{IsCleanup, IsDestroy, IsGivenRamp, IsPartOf, IsRamp, IsResume}
use Rattle.pass_exits_proof.specs.split.rules.Pieced.{ArePieces, ArePiecesOf, BeginsAgain, Ends, Marks, NoBlock, OneBlock, Returns, Stays, Suspends, Transfers}
use Rattle.pass_exits_proof.specs.split.rules.Splittable.{IsSplittable}
use Rattle.pass_fetch_proof.specs.run_laws.changed.Changed.{Each}

module _ (limit : ℕ) where
  -- what an instruction makes is below the limit
  abbrev Below : Instr → Type 0
  Below i = (v : ℕ) → IsListed v (made_by i) → v < limit

  abbrev PhisBelow : List Phi → Type 0
  PhisBelow ps = Each (λ (p : Phi). p.result < limit) ps

  -- what a block makes
  record IsBelow (b : Block) : Type 0 where
    phis : PhisBelow b.phis
    instrs : Each Below b.instrs

  one : (n : ℕ) → n < limit → (v : ℕ) → IsListed v (n ∷ []) → v < limit
  one n low v (inl e) = subst (λ (k : ℕ). k < limit) (sym e) low
  one n low v (inr l) = absurd l

  none : (v : ℕ) → IsListed v [] → v < limit
  none v l = absurd l

  -- ---- what is lowered

  module _ (s : Shape) where
    -- begin's value is below the limit where an instruction is a begin
    abbrev BeginsBelow : Instr → Type 0
    BeginsBelow i = is_begin i ≡ true → s.begin < limit

    save_below : (n : ℕ) (o : Option ℕ) → n + 1 ≤ limit → Each Below (save_or_none s n o)
    save_below n None high = tt
    save_below n (Some j) high = (one n (omega (arith, high)), (none, (none, tt)))

    call_below : (part : Part) (n : ℕ) (x : Intrinsic) (r : Option ℕ) (must_tail : Bool) (ty : Option Ty) (args : List Arg) → Below (Instr.Call r must_tail ty (Callee.Intrinsic x) args) → BeginsBelow (Instr.Call r must_tail ty (Callee.Intrinsic x) args) → n + names_for x ≤ limit → Each Below (lowered s part n (Instr.Call r must_tail ty (Callee.Intrinsic x) args))
    call_below part n Intrinsic.CoroSizeI32 None must_tail ty args h begin high = tt
    call_below part n Intrinsic.CoroSizeI32 (Some r) must_tail ty args h begin high = (h, tt)
    call_below part n Intrinsic.CoroSizeI64 None must_tail ty args h begin high = tt
    call_below part n Intrinsic.CoroSizeI64 (Some r) must_tail ty args h begin high = (h, tt)
    call_below part n Intrinsic.CoroAlignI32 None must_tail ty args h begin high = tt
    call_below part n Intrinsic.CoroAlignI32 (Some r) must_tail ty args h begin high = (h, tt)
    call_below part n Intrinsic.CoroAlignI64 None must_tail ty args h begin high = tt
    call_below part n Intrinsic.CoroAlignI64 (Some r) must_tail ty args h begin high = (h, tt)
    call_below part n Intrinsic.CoroAlloc None must_tail ty args h begin high = tt
    call_below part n Intrinsic.CoroAlloc (Some r) must_tail ty args h begin high = (h, tt)
    call_below part n Intrinsic.CoroBegin r must_tail ty args h begin high = (one s.begin (begin refl), (none, (one n (omega (arith, high)), (none, tt))))
    call_below part n Intrinsic.CoroFree None must_tail ty args h begin high = tt
    call_below part n Intrinsic.CoroFree (Some r) must_tail ty args h begin high = (h, tt)
    call_below part n Intrinsic.CoroFrame None must_tail ty args h begin high = tt
    call_below part n Intrinsic.CoroFrame (Some r) must_tail ty args h begin high = (h, tt)
    call_below part n Intrinsic.CoroSave r must_tail ty args h begin high = save_below n (number_of_save s r) high
    call_below part n Intrinsic.CoroSuspend r must_tail ty args h begin high = tt
    call_below part n Intrinsic.CoroEnd None must_tail ty args h begin high = tt
    call_below part n Intrinsic.CoroEnd (Some r) must_tail ty args h begin high = (h, tt)
    call_below part n Intrinsic.CoroResume r must_tail ty args h begin high = (one n (omega (arith, high)), (none, tt))
    call_below part n Intrinsic.CoroDestroy r must_tail ty args h begin high = (one n (omega (arith, high)), (one (n + 1) (omega (arith, high)), (none, tt)))
    call_below part n Intrinsic.CoroDone None must_tail ty args h begin high = tt
    call_below part n Intrinsic.CoroDone (Some r) must_tail ty args h begin high = (one n (omega (arith, high)), (h, tt))
    call_below part n Intrinsic.CoroPromise None must_tail ty args h begin high = tt
    call_below part n Intrinsic.CoroPromise (Some r) must_tail ty args h begin high = (h, tt)
    call_below part n _ r must_tail ty args h begin high = (h, tt)

    lowered_below : (part : Part) (n : ℕ) (i : Instr) → Below i → BeginsBelow i → n + names_taken i ≤ limit → Each Below (lowered s part n i)
    lowered_below part n (Instr.Call r must_tail ty (Callee.Intrinsic x) args) h begin high = call_below part n x r must_tail ty args h begin high
    lowered_below part n i h begin high = (h, tt)

    -- what is asked of an instruction before
    abbrev IsFine : Instr → Type 0
    IsFine i = Below i × BeginsBelow i

    record IsFineBlock (b : Block) : Type 0 where
      phis : PhisBelow b.phis
      instrs : Each IsFine b.instrs

    -- ---- pieces

    module _ (part : Part) where
      pieces_below : (t : Terminator) (label n last : ℕ) (phis : List Phi) (is : List Instr) (cs : List Block) → ArePieces s part t label phis n is cs last → last ≤ limit → PhisBelow phis → Each IsFine is → Each IsBelow cs
      pieces_below t _ _ _ _ _ _ (Ends label n phis) high q h = (record { phis = q; instrs = tt }, tt)
      pieces_below t _ _ _ _ _ _ (Stays label n last phis i is c cs again d more) high q h =
          let r = pieces_below t label (n + names_taken i) last phis is (c ∷ cs) more high q h.1 in
          let up : n + names_taken i ≤ last = rises s part t label (n + names_taken i) last phis is (c ∷ cs) more in
          (record { phis = r.0.phis; instrs = each_joined Below (lowered s part n i) c.instrs (lowered_below part n i h.0.0 h.0.1 (omega (arith, up, high))) r.0.instrs }, r.1)
      pieces_below t _ _ _ _ _ _ (Marks label n last mark phis i is cs again d more) high q h =
          let up : n + names_taken i ≤ last = rises s part t mark (n + names_taken i) last [] is cs more in
          (record { phis = q; instrs = lowered_below part n i h.0.0 h.0.1 (omega (arith, up, high)) }, pieces_below t mark (n + names_taken i) last [] is cs more high tt h.1)
      pieces_below t _ _ _ _ _ _ (Suspends label n phis i is again d) high q h = (record { phis = q; instrs = tt }, tt)
      pieces_below t _ _ _ _ _ _ (Returns label n phis i is again d) high q h = (record { phis = q; instrs = tt }, tt)
      pieces_below t _ _ _ _ _ _ (Transfers label n j phis i is again d) high q h = (record { phis = q; instrs = tt }, (record { phis = tt; instrs = lowered_below part n i h.0.0 h.0.1 high }, tt))
      pieces_below t _ _ _ _ _ _ (BeginsAgain label n phis i is again) high q h = (record { phis = q; instrs = tt }, tt)

      pieced_below : (origins : List Origin) (label : ℕ) (ps : List Phi) → PhisBelow ps → PhisBelow (map (pieced_phi s part origins label) ps)
      pieced_below origins label [] h = tt
      pieced_below origins label (p ∷ ps) h = (h.0, pieced_below origins label ps h.1)

      all_rise : (origins : List Origin) (n last : ℕ) (bs cs : List Block) → ArePiecesOf s part origins n bs cs last → n ≤ last
      all_rise origins _ _ _ _ (NoBlock n) = omega arith
      all_rise origins _ _ _ _ (OneBlock n next last b bs cs ds k rest) =
          let first : n ≤ next = rises s part b.term b.label n next (map (pieced_phi s part origins b.label) b.phis) b.instrs cs k in
          let more : next ≤ last = all_rise origins next last bs ds rest in
          omega (arith, first, more)

      blocks_below : (origins : List Origin) (n last : ℕ) (bs cs : List Block) → ArePiecesOf s part origins n bs cs last → last ≤ limit → Each IsFineBlock bs → Each IsBelow cs
      blocks_below origins _ _ _ _ (NoBlock n) high h = tt
      blocks_below origins _ _ _ _ (OneBlock n next last b bs cs ds k rest) high h =
          let more : next ≤ last = all_rise origins next last bs ds rest in
          each_joined IsBelow cs ds
          (pieces_below b.term b.label n next (map (pieced_phi s part origins b.label) b.phis) b.instrs cs k (omega (arith, more, high)) (pieced_below origins b.label b.phis h.0.phis) h.0.instrs)
          (blocks_below origins next last bs ds rest high h.1)

  -- a block of a function whose begin's value is below the limit
  fine_instrs : (s : Shape) → (is : List Instr) → ((i : Instr) → IsListed i is → BeginsBelow s i) → Each Below is → Each (IsFine s) is
  fine_instrs s [] begin h = tt
  fine_instrs s (i ∷ is) begin h = ((h.0, begin i (inl refl)), fine_instrs s is (λ j l. begin j (inr l)) h.1)

  fine_blocks : (s : Shape) (bs : List Block) → ((b : Block) (i : Instr) → IsListed b bs → IsListed i b.instrs → BeginsBelow s i) → Each IsBelow bs → Each (IsFineBlock s) bs
  fine_blocks s [] begin h = tt
  fine_blocks s (b ∷ bs) begin h = (record { phis = h.0.phis; instrs = fine_instrs s b.instrs (λ i l. begin b i (inl refl) l) h.0.instrs }, fine_blocks s bs (λ c i k l. begin c i (inr k) l) h.1)

  -- ---- blocks of a function, and the blocks of a part around the pieces

  allocas_below : (bs : List Block) → Each IsBelow bs → Each Below (allocas_of bs)
  allocas_below [] h = tt
  allocas_below (b ∷ bs) h = each_filtered Below is_alloca b.instrs h.0.instrs

  backs_below : (s : Shape) (part : Part) (j : ℕ) (ps : List SuspendPoint) → Each IsBelow (back_blocks s part j ps)
  backs_below s part j [] = tt
  backs_below s part j (p ∷ ps) = (record { phis = tt; instrs = tt }, backs_below s part (j + 1) ps)

  head_below : (s : Shape) (flags : List Bool) (part : Part) (bs : List Block) → first_name s ≤ limit → Each IsBelow bs → Each IsBelow (later_head s flags part bs)
  head_below s flags part bs high h = (
    record { phis = tt; instrs = each_joined Below (allocas_of bs) _ (allocas_below bs h) (one (slot_name s) (omega (arith, high)), (one (index_name s) (omega (arith, high)), tt)) },
    (record { phis = tt; instrs = tt }, backs_below s part 0 s.suspends),
  )

  phis_kept : (flags : List Bool) (ps : List Phi) → PhisBelow ps → PhisBelow (map (kept_phi flags) ps)
  phis_kept flags [] h = tt
  phis_kept flags (p ∷ ps) h = (h.0, phis_kept flags ps h.1)

  kept_below : (flags : List Bool) (bs : List Block) → Each IsBelow bs → Each IsBelow (kept_blocks flags bs)
  kept_below flags [] h = tt
  kept_below flags (b ∷ bs) h = on (is_flagged flags b.label) (kept_below flags bs h.1)
    where
      on : (t : Bool) → Each IsBelow (kept_blocks flags bs) → Each IsBelow (map (kept_block flags) (if t then b ∷ filter (λ c. is_flagged flags c.label) bs else filter (λ c. is_flagged flags c.label) bs))
      on true k = (record { phis = phis_kept flags b.phis h.0.phis; instrs = h.0.instrs }, k)
      on false k = k

  -- ---- from names and to names

  phis_of : (ps : List Phi) → ((v : ℕ) → IsListed v (phi_names ps) → v < limit) → PhisBelow ps
  phis_of [] h = tt
  phis_of (p ∷ ps) h = (h p.result (inl refl), phis_of ps (λ v l. h v (inr l)))

  instrs_of : (is : List Instr) → ((v : ℕ) → IsListed v (row_of made_by is) → v < limit) → Each Below is
  instrs_of [] h = tt
  instrs_of (i ∷ is) h = ((λ v l. h v (listed_left v (made_by i) (row_of made_by is) l)), instrs_of is (λ v l. h v (listed_right v (made_by i) (row_of made_by is) l)))

  blocks_of : (bs : List Block) → ((v : ℕ) → IsListed v (row_of block_names bs) → v < limit) → Each IsBelow bs
  blocks_of [] h = tt
  blocks_of (b ∷ bs) h =
      let own : (v : ℕ) → IsListed v (phi_names b.phis ++ row_of made_by b.instrs) → v < limit = λ v l. h v (listed_left v (block_names b) (row_of block_names bs) (inr l)) in (
        record { phis = phis_of b.phis (λ v l. own v (listed_left v (phi_names b.phis) (row_of made_by b.instrs) l)); instrs = instrs_of b.instrs (λ v l. own v (listed_right v (phi_names b.phis) (row_of made_by b.instrs) l)) },
        blocks_of bs (λ v l. h v (listed_right v (block_names b) (row_of block_names bs) l)),
      )

  phis_to : (ps : List Phi) → PhisBelow ps → (v : ℕ) → IsListed v (phi_names ps) → v < limit
  phis_to [] h v l = absurd l
  phis_to (p ∷ ps) h v (inl e) = subst (λ (k : ℕ). k < limit) (sym e) h.0
  phis_to (p ∷ ps) h v (inr l) = phis_to ps h.1 v l

  instrs_to : (is : List Instr) → Each Below is → (v : ℕ) → IsListed v (row_of made_by is) → v < limit
  instrs_to [] h v l = absurd l
  instrs_to (i ∷ is) h v l = ⊎_elim (λ a. h.0 v a) (λ b. instrs_to is h.1 v b) (listed_either v (made_by i) (row_of made_by is) l)

  blocks_to : (bs : List Block) → ((c : Block) → IsListed c bs → c.label < limit) → Each IsBelow bs → (v : ℕ) → IsListed v (row_of block_names bs) → v < limit
  blocks_to [] labels h v l = absurd l
  blocks_to (b ∷ bs) labels h v l =
      ⊎_elim
      (λ own. on own)
      (λ rest. blocks_to bs (λ c k. labels c (inr k)) h.1 v rest)
      (listed_either v (block_names b) (row_of block_names bs) l)
    where
      on : IsListed v (block_names b) → v < limit
      on (inl e) = subst (λ (k : ℕ). k < limit) (sym e) (labels b (inl refl))
      on (inr k) = ⊎_elim (λ p. phis_to b.phis h.0.phis v p) (λ i. instrs_to b.instrs h.0.instrs v i) (listed_either v (phi_names b.phis) (row_of made_by b.instrs) k)

-- the blocks that are kept have labels of the blocks
kept_labels : (limit : ℕ) (flags : List Bool) (bs : List Block) → ((c : Block) → IsListed c bs → c.label < limit) → (c : Block) → IsListed c (kept_blocks flags bs) → c.label < limit
kept_labels limit flags [] h c l = absurd l
kept_labels limit flags (b ∷ bs) h c l = on (is_flagged flags b.label) l (kept_labels limit flags bs (λ d k. h d (inr k)) c)
  where
    on : (t : Bool) → IsListed c (map (kept_block flags) (if t then b ∷ filter (λ d. is_flagged flags d.label) bs else filter (λ d. is_flagged flags d.label) bs)) → (IsListed c (kept_blocks flags bs) → c.label < limit) → c.label < limit
    on true (inl e) rest = subst (λ (d : Block). d.label < limit) (sym e) (h b (inl refl))
    on true (inr k) rest = rest k
    on false k rest = rest k

-- ---- the parts

module _ (m : Module) (k : ℕ) (f : Function) (begin : ℕ) (split : IsSplittable m k f begin) (layout : Layout) where
  abbrev s : Shape
  s = shape_of f layout

  begin_in : s.begin < length f.names
  begin_in =
      let x = begin_there m k f begin split layout in
      let made : begin < length f.names = results_below k f split.rules.tabled begin x.1.0 x.1.1.1.0 (listed_at f.blocks x.0 x.1.0 x.1.1.0) x.1.1.1.1.0 x.1.1.1.1.1.1 in
      let same : s.begin ≡ begin = begin_named m k f begin split layout in
      omega (arith, made, same)

  module _ (part : Part) where
    abbrev h : Function
    h = f

    abbrev origins : List Origin
    origins = origins_for s part h

    abbrev pieces : List Block
    pieces = pieces_of s part origins (first_name s) h.blocks

    abbrev last : ℕ
    last = next_after s part origins (first_name s) h.blocks

    abbrev limit : ℕ
    limit = length (part_names s part h origins)

    cut : ArePiecesOf s part origins (first_name s) h.blocks pieces last
    cut = cut_blocks s part origins (first_name s) h.blocks

    long : limit ≡ first_name s + (last - first_name s)
    long = names_are_long s part h (ok m k f begin split layout part) h.names (last - first_name s) (ok m k f begin split layout part).base

    rising : first_name s ≤ last
    rising = all_rise limit s part origins (first_name s) last h.blocks pieces cut

    old : (v : ℕ) → v < length f.names → v < limit
    old v low = let x : limit ≡ first_name s + (last - first_name s) = long in omega (arith, low, x)

    own_blocks : Each (IsBelow limit) f.blocks
    own_blocks = blocks_of limit f.blocks (λ v l. old v (names_below k f split.rules.tabled v (listed_right v (params_of f) (row_of block_names f.blocks) l)))

    pieces_low : Each (IsBelow limit) pieces
    pieces_low =
        let x : limit ≡ first_name s + (last - first_name s) = long in
        let up : first_name s ≤ last = rising in
        blocks_below limit s part origins (first_name s) last h.blocks pieces cut (omega (arith, x, up)) (fine_blocks limit s h.blocks (λ b i a l e. old s.begin begin_in) own_blocks)

    head_low : Each (IsBelow limit) (head_blocks s part h)
    head_low = on (goes_on part)
      where
        on : (b : Bool) → Each (IsBelow limit) (if b then later_head s (reached h) part h.blocks else [])
        on true = let x : limit ≡ first_name s + (last - first_name s) = long in head_below limit s (reached h) part h.blocks (omega (arith, x)) own_blocks
        on false = tt

    whole_low : Each (IsBelow limit) (part_blocks s part h origins)
    whole_low =
        each_joined (IsBelow limit) (head_blocks s part h ++ pieces) (done_block s ∷ []) (each_joined (IsBelow limit) (head_blocks s part h) pieces head_low pieces_low) (record { phis = tt; instrs = tt }, tt)

    -- a function with the names and the blocks of the part
    part_low : (p : Function) → p.blocks ≡ part_blocks s part h origins → p.names ≡ part_names s part h origins → ((v : ℕ) → IsListed v (params_of p) → v < limit) → (l : ℕ) → HasTabledLocals l (pruned p)
    part_low p blocks names params l =
        let same : limit ≡ length p.names = ap length (sym names) in
        let labels : (c : Block) → IsListed c p.blocks → c.label < limit = λ c x.
        let low : c.label < length p.names = tabled_label s part h (ok m k f begin split layout part) p blocks names c (subst (IsListed c) blocks x) in omega (arith, low, same) in
        let below : Each (IsBelow limit) p.blocks = subst (Each (IsBelow limit)) (sym blocks) whole_low in
        tabled_by l (pruned p)
        (λ v x.
        ⊎_elim
        (λ a. let low : v < limit = params v a in omega (arith, low, same))
        (λ b. let low : v < limit = blocks_to limit (pruned p).blocks (kept_labels limit (reached p) p.blocks labels) (kept_below limit (reached p) p.blocks below) v b in omega (arith, low, same))
        (listed_either v (params_of p) (row_of block_names (pruned p).blocks) x))

  frame_param : (part : Part) (v : ℕ) → IsListed v (s.begin ∷ []) → v < length (part_names s part f (origins_for s part f))
  frame_param part v (inl e) = subst (λ (n : ℕ). n < length (part_names s part f (origins_for s part f))) (sym e) (old part s.begin begin_in)
  frame_param part v (inr l) = absurd l

  own_param : (part : Part) (v : ℕ) → IsListed v (params_of f) → v < length (part_names s part f (origins_for s part f))
  own_param part v x = old part v (names_below k f split.rules.tabled v (listed_left v (params_of f) (row_of block_names f.blocks) x))

  given_param : (v : ℕ) → IsListed v (params_of f ++ given_name s ∷ []) → v < length (part_names s Part.GivenRamp f (origins_for s Part.GivenRamp f))
  given_param v x = ⊎_elim (own_param Part.GivenRamp v) new (listed_either v (params_of f) (given_name s ∷ []) x)
    where
      new : IsListed v (given_name s ∷ []) → v < length (part_names s Part.GivenRamp f (origins_for s Part.GivenRamp f))
      new (inl e) = let all = long Part.GivenRamp in let is : v ≡ given_name s = e in omega (arith, all, is)
      new (inr l) = absurd l

  ramp_tabled : (l : ℕ) → HasTabledLocals l (pruned (ramp_of s f))
  ramp_tabled l = part_low Part.Ramp (ramp_of s f) refl refl (own_param Part.Ramp) l

  given_tabled : (l : ℕ) → HasTabledLocals l (pruned (given_ramp_of s f))
  given_tabled l = part_low Part.GivenRamp (given_ramp_of s f) refl refl (λ v x. given_param v (subst (IsListed v) (given_params_are s f) x)) l

  later_tabled : (part : Part) (name : Name) (l : ℕ) → HasTabledLocals l (pruned (later_part s part name f))
  later_tabled part name l = part_low part (later_part s part name f) refl refl (frame_param part) l

pub parts_tabled : (m : Module) (k l : ℕ) (layout : Layout) (part : Part) (begin : ℕ) (f g : Function) → IsSplittable m k f begin → IsPartOf (shape_of f layout) f part g → HasTabledLocals l g
parts_tabled m k l layout _ begin f _ split IsRamp = ramp_tabled m k f begin split layout l
parts_tabled m k l layout _ begin f _ split IsGivenRamp = given_tabled m k f begin split layout l
parts_tabled m k l layout _ begin f _ split IsResume = later_tabled m k f begin split layout Part.Resume (shape_of f layout).resume_name l
parts_tabled m k l layout _ begin f _ split IsDestroy = later_tabled m k f begin split layout Part.Destroy (shape_of f layout).destroy_name l
parts_tabled m k l layout _ begin f _ split IsCleanup = later_tabled m k f begin split layout Part.Cleanup (shape_of f layout).cleanup_name l

-- ---- a function that is no coroutine

no_begin : (i : Instr) → IsOuter i → is_begin i ≡ true → ⊥
no_begin (Instr.Call r must_tail ty (Callee.Intrinsic Intrinsic.CoroBegin) args) o e = let t : false ≡ true = o.0 in absurd (cc)
no_begin _ o e = absurd (cc)

outer_at : (is : List Instr) → Each IsOuter is → (i : Instr) → IsListed i is → IsOuter i
outer_at [] h i l = absurd l
outer_at (x ∷ is) h i (inl e) = subst IsOuter (sym e) h.0
outer_at (x ∷ is) h i (inr l) = outer_at is h.1 i l

outer_in : (s : Shape) (n : ℕ) (bs cs : List Block) → AreTurned s n bs cs → (b : Block) (i : Instr) → IsListed b bs → IsListed i b.instrs → IsOuter i
outer_in s _ _ _ (NoneTurned n) b i l x = absurd l
outer_in s _ _ _ (OneTurned n b c bs cs t rest) d i (inl e) x = outer_at b.instrs t.outer i (subst (λ (y : Block). IsListed i y.instrs) e x)
outer_in s _ _ _ (OneTurned n b c bs cs t rest) d i (inr l) x = outer_in s _ bs cs rest d i l x

turned_labels : (s : Shape) (n limit : ℕ) (bs cs : List Block) → AreTurned s n bs cs → ((b : Block) → IsListed b bs → b.label < limit) → (c : Block) → IsListed c cs → c.label < limit
turned_labels s _ limit _ _ (NoneTurned n) h c l = absurd l
turned_labels s _ limit _ _ (OneTurned n b c bs cs t rest) h d (inl e) = let low : b.label < limit = h b (inl refl) in let same : c.label ≡ b.label = t.label in let is : d.label ≡ c.label = ap (λ (x : Block). x.label) e in omega (arith, low, same, is)
turned_labels s _ limit _ _ (OneTurned n b c bs cs t rest) h d (inr l) = turned_labels s _ limit bs cs rest (λ x k. h x (inr k)) d l

label_listed : (b : Block) (bs : List Block) → IsListed b bs → IsListed b.label (row_of block_names bs)
label_listed b [] l = absurd l
label_listed b (x ∷ bs) (inl e) = inl (ap (λ (y : Block). y.label) e)
label_listed b (x ∷ bs) (inr l) = listed_right b.label (block_names x) (row_of block_names bs) (label_listed b bs l)

pub turned_tabled : (k l : ℕ) (f : Function) → HasTabledLocals k f → AreTurned (plain_shape f) (length f.names) f.blocks (plain_of (plain_shape f) f).blocks → HasTabledLocals l (plain_of (plain_shape f) f)
turned_tabled k l f tabled turned =
    let s : Shape = plain_shape f in
    let g : Function = plain_of s f in
    let last : ℕ = next_after s Part.Ramp [] s.base f.blocks in
    let limit : ℕ = length g.names in
    let cut = cut_blocks s Part.Ramp [] s.base f.blocks in
    let a : limit ≡ length f.names + length (instr_names (last - s.base)) = length-append f.names (instr_names (last - s.base)) in
    let b : length (instr_names (last - s.base)) ≡ last - s.base = instr_names_long (last - s.base) in
    let up : s.base ≤ last = all_rise limit s Part.Ramp [] s.base last f.blocks g.blocks cut in
    let low : (v : ℕ) → IsListed v (numbers f) → v < limit = λ v x. let y : v < length f.names = names_below k f tabled v x in omega (arith, y, a) in
    let own : (v : ℕ) → IsListed v (row_of block_names f.blocks) → v < limit = λ v x. low v (listed_right v (params_of f) (row_of block_names f.blocks) x) in
    let below : Each (IsBelow limit) g.blocks =
    blocks_below limit s Part.Ramp [] s.base last f.blocks g.blocks cut (omega (arith, a, b, up))
    (fine_blocks limit s f.blocks (λ c i x y e. absurd (no_begin i (outer_in s (length f.names) f.blocks g.blocks turned c i x y) e)) (blocks_of limit f.blocks own)) in
    tabled_by l g
    (λ v x.
    ⊎_elim (λ p. low v (listed_left v (params_of f) (row_of block_names f.blocks) p))
    (λ q. blocks_to limit g.blocks (turned_labels s (length f.names) limit f.blocks g.blocks turned (λ c y. own c.label (label_listed c f.blocks y))) below v q)
    (listed_either v (params_of g) (row_of block_names g.blocks) x))
