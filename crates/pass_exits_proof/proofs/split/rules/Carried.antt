-- A rule that nothing in the blocks of a function breaks is broken by nothing in the blocks of what the function becomes.
use Rattle.std.proofs.Common.{◌≡◌, ℕ, ◌≤◌, Bool, true, false, List, [], ◌∷◌, ◌++◌, refl, arith}
use Rattle.std.specs.List.{cons_option, list_all}
use Rattle.std.specs.Prelude.{Option, None, Some, filter, filter_map, pos, slice_get, if◌then◌else◌}
use Rattle.pass_fetch_proof.specs.ir_base.declared.outcome.Place.{Place}
use Rattle.pass_split.specs.Parts.{done_block, entry_instrs, entry_term, given_ramp_of, later_head, later_part, origins_for, plain_of, ramp_of}
use Rattle.pass_fetch_proof.specs.pass_front.Front.{allocas_of, is_alloca}
use Rattle.pass_split.specs.Pieces.{begins_again, comes_from, incoming_from, pieced_incoming, pieced_phi, pieces_of, next_after, redirected_term}
use Rattle.pass_split.specs.Reached.{is_flagged, kept_phi, pruned, reached}
use Rattle.pass_split.specs.declared.origin.Origin.{Origin}
use Rattle.pass_fetch_proof.proofs.ir_laws.facts.Members.{each_joined, each_turns}
use Rattle.pass_fetch_proof.proofs.rule_laws.rules.local_rules.Carried.{none_of, passing}
use Rattle.pass_fetch_proof.proofs.ir_laws.facts.Truth.{and_both, and_first, and_second}
use Rattle.pass_fetch_proof.specs.ir_parts.Parts.{Ending, Head, OfInstr, OfPhi, Part as FunctionPart, Signature, first_part, function_place, parts_of}
use Rattle.pass_fetch_proof.specs.pass_intrinsics.Cuts.{goes_on}
use Rattle.pass_fetch_proof.specs.pass_intrinsics.Lowered.{address, lowered}
use Rattle.pass_fetch_proof.specs.pass_intrinsics.Shapes.{first_name, index_bytes, index_name, slot_name}
use Rattle.pass_fetch_proof.specs.pass_intrinsics.declared.shape.Part.{Part}
use Rattle.pass_fetch_proof.specs.pass_intrinsics.declared.shape.Shape.{Shape}
use Rattle.ir_model.specs.Ty.{int}
use Rattle.ir_model.specs.TypeView.{bits_of}
use Rattle.ir_model.specs.declared.instr.Incoming.{Incoming}
use Rattle.ir_model.specs.declared.instr.Instr.{Instr}
use Rattle.ir_model.specs.declared.instr.Phi.{Phi}
use Rattle.ir_model.specs.declared.instr.Terminator.{Terminator}
use Rattle.ir_model.specs.declared.module.Block.{Block}
use Rattle.ir_model.specs.declared.module.Function.{Function}
use Rattle.ir_model.specs.declared.operand.Operand.{Operand}
use Rattle.pass_exits_proof.proofs.split.rules.Cutting.{cut_blocks}
use Rattle.pass_exits_proof.proofs.split.rules.Parted.{AreEnds, blocks_all as pieces_of_all, done_all, head_all, kept_all}
use Rattle.pass_fetch_proof.proofs.rule_laws.rules.replaced.Passed.{AllPassingBlock, IsAll, Passes, PassesAll, PassingBlock, blocks_all, blocks_pass}
use Rattle.pass_exits_proof.specs.split.rules.Parted.{IsCleanup, IsDestroy, IsGivenRamp, IsPartOf, IsRamp, IsResume}
use Rattle.pass_fetch_proof.specs.run_laws.changed.Changed.{Each}

-- ---- phis: some operands go, and the labels of the others change

-- a phi with some of the operands of a phi
pub record IsPhiOf (x y : Phi) : Type 0 where
  pub result : y.result ≡ x.result
  pub ty : y.ty ≡ x.ty
  pub values : (t : Operand → Bool) → list_all (λ (i : Incoming). t i.value) x.incoming ≡ true → list_all (λ (i : Incoming). t i.value) y.incoming ≡ true

module _ (t : Operand → Bool) where
  abbrev TestsOf : List Incoming → Bool
  TestsOf is = list_all (λ (i : Incoming). t i.value) is

  pieced_values : (s : Shape) (part : Part) (origins : List Origin) (label : ℕ) (is : List Incoming) → TestsOf is ≡ true → TestsOf (filter_map (pieced_incoming s part origins label) is) ≡ true
  pieced_values s part origins label [] e = refl
  pieced_values s part origins label (i ∷ is) e =
      on (comes_from s part label i.from (slice_get origins i.from)) (pieced_values s part origins label is (and_second (t i.value) (TestsOf is) e))
    where
      rest : List Incoming
      rest = filter_map (pieced_incoming s part origins label) is

      on : (o : Option ℕ) → TestsOf rest ≡ true → TestsOf (cons_option (incoming_from i o) rest) ≡ true
      on None k = k
      on (Some l) k = and_both (t i.value) (TestsOf rest) (and_first (t i.value) (TestsOf is) e) k

  kept_values : (flags : List Bool) (is : List Incoming) → TestsOf is ≡ true → TestsOf (filter (λ i. is_flagged flags i.from) is) ≡ true
  kept_values flags [] e = refl
  kept_values flags (i ∷ is) e = on (is_flagged flags i.from) (kept_values flags is (and_second (t i.value) (TestsOf is) e))
    where
      on : (b : Bool) → TestsOf (filter (λ j. is_flagged flags j.from) is) ≡ true → TestsOf (if b then i ∷ filter (λ j. is_flagged flags j.from) is else filter (λ j. is_flagged flags j.from) is) ≡ true
      on true k = and_both (t i.value) (TestsOf (filter (λ j. is_flagged flags j.from) is)) (and_first (t i.value) (TestsOf is) e) k
      on false k = k

pub pieced_phi_of : (s : Shape) (part : Part) (origins : List Origin) (label : ℕ) (x : Phi) → IsPhiOf x (pieced_phi s part origins label x)
pieced_phi_of s part origins label x = record { result = refl; ty = refl; values = λ t e. pieced_values t s part origins label x.incoming e }

pub kept_phi_of : (flags : List Bool) (x y : Phi) → IsPhiOf x y → IsPhiOf x (kept_phi flags y)
kept_phi_of flags x y h = record { result = h.result; ty = h.ty; values = λ t e. kept_values t flags y.incoming (h.values t e) }

-- ---- what stands in a function becomes what stands in a part of it

-- the instructions with which a part that goes on asks for its index
abbrev pub index_instrs : Shape → List Instr
index_instrs s =
    address (slot_name s) (Operand.Local s.begin) (pos s.index)
    ∷ Instr.Load (index_name s) (int (bits_of s.width)) (Operand.Local (slot_name s)) (index_bytes s.width)
    ∷ []

-- what is said of phis, instructions and terminators of a function, and what is then said of those of its parts
pub record Becomes (s : Shape) (part : Part) (low : ℕ) (Q0 Q : Phi → Type 0) (P0 P : Instr → Type 0) (T0 T : Terminator → Type 0) : Type 0 where
  pub phi : (x y : Phi) → IsPhiOf x y → Q0 x → Q y
  pub instr : (n : ℕ) (i : Instr) → low ≤ n → begins_again part i ≡ false → P0 i → Each P (lowered s part n i)
  pub ending : (t : Terminator) → T0 t → T (redirected_term s t)
  pub ends : AreEnds part T
  pub index : goes_on part ≡ true → Each P (index_instrs s)
  pub switch : goes_on part ≡ true → (flags : List Bool) → T (entry_term s flags part)

-- an alloca stands as it is in all parts
stays_so : (s : Shape) (part : Part) (low : ℕ) (R : Instr → Type 0) (i : Instr) → is_alloca i ≡ true → (begins_again part i ≡ false → (n : ℕ) → low ≤ n → Each R (lowered s part n i)) → R i
stays_so s part low R (Instr.Alloca r ty align) e h = (h (never part) low (omega arith)).0
  where
    never : (p : Part) → begins_again p (Instr.Alloca r ty align) ≡ false
    never Part.Ramp = refl
    never Part.Resume = refl
    never Part.Destroy = refl
    never Part.GivenRamp = refl
    never Part.Cleanup = refl
stays_so s part low R _ e h = absurd (cc)

module _ (s : Shape) (part : Part) (low : ℕ) (Q0 Q : Phi → Type 0) (P0 P : Instr → Type 0) (T0 T : Terminator → Type 0) (over : Becomes s part low Q0 Q P0 P T0 T) where
  -- a phi that has some operands of one of the function
  abbrev FromPhi : Phi → Type 0
  FromPhi y = (x : Phi) × (Q0 x × IsPhiOf x y)

  abbrev Old : Block → Type 0
  Old = IsAll Q0 P0 T0

  abbrev New : Block → Type 0
  New = IsAll FromPhi P T

  pub pieces_so : (origins : List Origin) (n : ℕ) (bs : List Block) → low ≤ n → Each Old bs → Each New (pieces_of s part origins n bs)
  pieces_so origins n bs a h =
      pieces_of_all s part FromPhi P T over.ends low origins n (next_after s part origins n bs) bs (pieces_of s part origins n bs) (cut_blocks s part origins n bs)
      (each_turns Old (λ (b : Block). IsAll (λ (x : Phi). FromPhi (pieced_phi s part origins b.label x)) (λ (i : Instr). begins_again part i ≡ false → (k : ℕ) → low ≤ k → Each P (lowered s part k i)) (λ (t : Terminator). T (redirected_term s t)) b)
      (λ b k.
      record {
        phis = each_turns Q0 (λ (x : Phi). FromPhi (pieced_phi s part origins b.label x)) (λ x u. (x, (u, pieced_phi_of s part origins b.label x))) b.phis k.phis;
        instrs = each_turns P0 (λ (i : Instr). begins_again part i ≡ false → (m : ℕ) → low ≤ m → Each P (lowered s part m i)) (λ i u e m c. over.instr m i c e u) b.instrs k.instrs;
        term = over.ending b.term k.term;
      })
      bs h) a

  allocas_so : (bs : List Block) → Each Old bs → Each P (allocas_of bs)
  allocas_so [] h = tt
  allocas_so (b ∷ bs) h = those b.instrs h.0.instrs
    where
      those : (is : List Instr) → Each P0 is → Each P (filter is_alloca is)
      those [] k = tt
      those (i ∷ is) k = on (is_alloca i) refl (those is k.1)
        where
          on : (b : Bool) → is_alloca i ≡ b → Each P (filter is_alloca is) → Each P (if b then i ∷ filter is_alloca is else filter is_alloca is)
          on true e rest = (stays_so s part low P i e (λ d m c. over.instr m i c d k.0), rest)
          on false e rest = rest

  entry_so : goes_on part ≡ true → (bs : List Block) → Each Old bs → Each P (entry_instrs s bs)
  entry_so e bs h = each_joined P (allocas_of bs) (index_instrs s) (allocas_so bs h) (over.index e)

  pub now_so : (bs : List Block) → Each New bs → Each (IsAll Q P T) bs
  now_so bs h = each_turns New (IsAll Q P T) (λ b k. record { phis = each_turns FromPhi Q (λ y u. over.phi u.0 y u.1.1 u.1.0) b.phis k.phis; instrs = k.instrs; term = k.term }) bs h

  pub kept_so : (g : Function) → Each New g.blocks → Each (IsAll Q P T) (pruned g).blocks
  kept_so g h = now_so (pruned g).blocks (kept_all FromPhi P T (reached g) (λ y u. (u.0, (u.1.0, kept_phi_of (reached g) u.0 y u.1.1))) g.blocks h)

  pub ramp_so : (f : Function) → low ≤ first_name s → goes_on part ≡ false → Each Old f.blocks → (origins : List Origin) → Each New (pieces_of s part origins (first_name s) f.blocks ++ done_block s ∷ [])
  ramp_so f a e h origins =
      each_joined New (pieces_of s part origins (first_name s) f.blocks) (done_block s ∷ []) (pieces_so origins (first_name s) f.blocks a h)
      (done_all s part FromPhi P T over.ends, tt)

  pub later_so : (f : Function) → low ≤ first_name s → goes_on part ≡ true → Each Old f.blocks → (origins : List Origin) → Each New ((later_head s (reached f) part f.blocks ++ pieces_of s part origins (first_name s) f.blocks) ++ done_block s ∷ [])
  later_so f a e h origins =
      each_joined New (later_head s (reached f) part f.blocks ++ pieces_of s part origins (first_name s) f.blocks) (done_block s ∷ [])
      (each_joined New (later_head s (reached f) part f.blocks) (pieces_of s part origins (first_name s) f.blocks)
      (head_all s part FromPhi P T over.ends f (entry_so e f.blocks h) (over.switch e (reached f))) (pieces_so origins (first_name s) f.blocks a h))
      (done_all s part FromPhi P T over.ends, tt)

-- what is said of all blocks of a function is said of all blocks of its parts, and of what becomes of one that is no coroutine
pub part_all : (s : Shape) (part : Part) (low : ℕ) (Q0 Q : Phi → Type 0) (P0 P : Instr → Type 0) (T0 T : Terminator → Type 0) → Becomes s part low Q0 Q P0 P T0 T → low ≤ first_name s → (f g : Function) → IsPartOf s f part g → Each (IsAll Q0 P0 T0) f.blocks → Each (IsAll Q P T) g.blocks
part_all s _ low Q0 Q P0 P T0 T over a f _ IsRamp h =
    kept_so s Part.Ramp low Q0 Q P0 P T0 T over (ramp_of s f) (ramp_so s Part.Ramp low Q0 Q P0 P T0 T over f a refl h (origins_for s Part.Ramp f))
part_all s _ low Q0 Q P0 P T0 T over a f _ IsResume h =
    kept_so s Part.Resume low Q0 Q P0 P T0 T over (later_part s Part.Resume s.resume_name f) (later_so s Part.Resume low Q0 Q P0 P T0 T over f a refl h (origins_for s Part.Resume f))
part_all s _ low Q0 Q P0 P T0 T over a f _ IsDestroy h =
    kept_so s Part.Destroy low Q0 Q P0 P T0 T over (later_part s Part.Destroy s.destroy_name f) (later_so s Part.Destroy low Q0 Q P0 P T0 T over f a refl h (origins_for s Part.Destroy f))
part_all s _ low Q0 Q P0 P T0 T over a f _ IsCleanup h =
    kept_so s Part.Cleanup low Q0 Q P0 P T0 T over (later_part s Part.Cleanup s.cleanup_name f) (later_so s Part.Cleanup low Q0 Q P0 P T0 T over f a refl h (origins_for s Part.Cleanup f))
part_all s _ low Q0 Q P0 P T0 T over a f _ IsGivenRamp h =
    kept_so s Part.GivenRamp low Q0 Q P0 P T0 T over (given_ramp_of s f) (ramp_so s Part.GivenRamp low Q0 Q P0 P T0 T over f a refl h (origins_for s Part.GivenRamp f))

pub plain_all : (s : Shape) (low : ℕ) (Q0 Q : Phi → Type 0) (P0 P : Instr → Type 0) (T0 T : Terminator → Type 0) → Becomes s Part.Ramp low Q0 Q P0 P T0 T → low ≤ s.base → (f : Function) → Each (IsAll Q0 P0 T0) f.blocks → Each (IsAll Q P T) (plain_of s f).blocks
plain_all s low Q0 Q P0 P T0 T over a f h = now_so s Part.Ramp low Q0 Q P0 P T0 T over (plain_of s f).blocks (pieces_so s Part.Ramp low Q0 Q P0 P T0 T over [] s.base f.blocks a h)

-- ---- rules

-- what is asked of a rule on the parts of a function that doesn't look at places
pub record Carries (s : Shape) (part : Part) (low : ℕ) (breaks now : Place → FunctionPart → Bool) : Type 0 where
  pub head : (p : Place) (b : Block) → now p (Head b) ≡ false
  pub phi : (p q : Place) (x y : Phi) → IsPhiOf x y → breaks p (OfPhi x) ≡ false → now q (OfPhi y) ≡ false
  pub instr : (p q : Place) (n : ℕ) (i : Instr) → low ≤ n → begins_again part i ≡ false → breaks p (OfInstr i) ≡ false → Each (λ (j : Instr). now q (OfInstr j) ≡ false) (lowered s part n i)
  pub ending : (p q : Place) (t : Terminator) → breaks p (Ending t) ≡ false → now q (Ending (redirected_term s t)) ≡ false
  pub jump : (q : Place) (label : ℕ) → now q (Ending (Terminator.Jump label)) ≡ false
  pub return : goes_on part ≡ true → (q : Place) → now q (Ending (Terminator.Ret None)) ≡ false
  pub stop : (q : Place) → now q (Ending Terminator.Unreachable) ≡ false
  pub index : goes_on part ≡ true → (q : Place) → Each (λ (j : Instr). now q (OfInstr j) ≡ false) (index_instrs s)
  pub switch : goes_on part ≡ true → (flags : List Bool) (q : Place) → now q (Ending (entry_term s flags part)) ≡ false

each_place : (R : Place → Instr → Type 0) (js : List Instr) → ((q : Place) → Each (R q) js) → Each (λ (j : Instr). (q : Place) → R q j) js
each_place R [] h = tt
each_place R (j ∷ js) h = ((λ q. (h q).0), each_place R js (λ q. (h q).1))

-- such a rule is broken by nothing in a part
becomes : (s : Shape) (part : Part) (low : ℕ) (breaks now : Place → FunctionPart → Bool) → Carries s part low breaks now → Becomes s part low (λ (x : Phi). Passes breaks (OfPhi x)) (λ (x : Phi). PassesAll now (OfPhi x)) (λ (i : Instr). Passes breaks (OfInstr i)) (λ (i : Instr). PassesAll now (OfInstr i)) (λ (t : Terminator). Passes breaks (Ending t)) (λ (t : Terminator). PassesAll now (Ending t))
becomes s part low breaks now over =
    record {
      phi = λ x y of u q. over.phi u.0 q x y of u.1;
      instr = λ n i a e u. each_place (λ q j. now q (OfInstr j) ≡ false) (lowered s part n i) (λ q. over.instr u.0 q n i a e u.1);
      ending = λ t u q. over.ending u.0 q t u.1;
      ends = record { jump = λ l q. over.jump q l; return = λ e q. over.return e q; stop = λ q. over.stop q };
      index = λ e. each_place (λ q j. now q (OfInstr j) ≡ false) (index_instrs s) (over.index e);
      switch = λ e flags q. over.switch e flags q;
    }

module _ (s : Shape) (breaks now : Place → FunctionPart → Bool) (k l : ℕ) (f g : Function) (signature : (p q : Place) → breaks p (Signature f) ≡ false → now q (Signature g) ≡ false) (e : first_part breaks (parts_of k f) ≡ None) where
  carried : ((p : Place) (b : Block) → now p (Head b) ≡ false) → (Each (PassingBlock breaks) f.blocks → Each (AllPassingBlock now) g.blocks) → first_part now (parts_of l g) ≡ None
  carried head over =
      let all = passing breaks (parts_of k f) e in
      none_of now (parts_of l g) (signature (function_place k) (function_place l) all.0, blocks_all now l head 0 g.blocks (over (blocks_pass breaks k 0 f.blocks all.1)))

pub part_carried : (s : Shape) (part : Part) (low : ℕ) (breaks now : Place → FunctionPart → Bool) → Carries s part low breaks now → low ≤ first_name s → (k l : ℕ) (f g : Function) → IsPartOf s f part g → ((p q : Place) → breaks p (Signature f) ≡ false → now q (Signature g) ≡ false) → first_part breaks (parts_of k f) ≡ None → first_part now (parts_of l g) ≡ None
part_carried s part low breaks now over a k l f g h signature e =
    carried s breaks now k l f g signature e over.head
    (part_all s part low (λ (x : Phi). Passes breaks (OfPhi x)) (λ (x : Phi). PassesAll now (OfPhi x)) (λ (i : Instr). Passes breaks (OfInstr i)) (λ (i : Instr). PassesAll now (OfInstr i)) (λ (t : Terminator). Passes breaks (Ending t)) (λ (t : Terminator). PassesAll now (Ending t)) (becomes s part low breaks now over) a f g h)

pub plain_carried : (s : Shape) (low : ℕ) (breaks now : Place → FunctionPart → Bool) → Carries s Part.Ramp low breaks now → low ≤ s.base → (k l : ℕ) (f : Function) → ((p q : Place) → breaks p (Signature f) ≡ false → now q (Signature (plain_of s f)) ≡ false) → first_part breaks (parts_of k f) ≡ None → first_part now (parts_of l (plain_of s f)) ≡ None
plain_carried s low breaks now over a k l f signature e =
    carried s breaks now k l f (plain_of s f) signature e over.head
    (plain_all s low (λ (x : Phi). Passes breaks (OfPhi x)) (λ (x : Phi). PassesAll now (OfPhi x)) (λ (i : Instr). Passes breaks (OfInstr i)) (λ (i : Instr). PassesAll now (OfInstr i)) (λ (t : Terminator). Passes breaks (Ending t)) (λ (t : Terminator). PassesAll now (Ending t)) (becomes s Part.Ramp low breaks now over) a f)
