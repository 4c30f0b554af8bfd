-- A ramp that was given its frame has room for it in an alloca of its caller.
use Rattle.std.proofs.Common.{◌≡◌, ◌+◌, inl, inr, ℕ, zero, suc, Bool, true, false, List, [], ◌∷◌, ◌++◌, length, refl, sym, ap, ◌∙◌, subst, arith, if◌then◌else◌, ◌==◌}
use Rattle.std.specs.Prelude.{None, Option, Some, find, option_and_then, option_map, slice_get, unwrap_or}
use Rattle.std.specs.List.{Contains}
use Rattle.elide_sites.specs.Sites.{callee_in}
use Rattle.pass_elide.specs.Elided.{block_frames, blocks_frames, coroutine_frame, frame_allocas, frames_by, function_frames, instr_frames}
use Rattle.pass_elide.specs.Frames.{callee_layout, frame_of, layout_of, site_frame}
use Rattle.pass_elide.specs.Places.{is_site}
use Rattle.pass_elide.specs.declared.given.GivenFrame.{GivenFrame}
use Rattle.pass_elide_proof.specs.Beginning.{HasRoomAt}
use Rattle.pass_elide_proof.specs.Elision.{Elision, Shape, function_in, no_shape, rooms}
use Rattle.pass_elide_proof.specs.Invariant.{AreGivenBy, IsGivenBy}
use Rattle.pass_elide_proof.specs.Match.{AreActivations, AreBelow, Aside, Beside, Freeing, HasAlloca, HasAllocas, IsAt, Sides, Waiting, frame_size, sides, was_given}
use Rattle.pass_elide_proof.specs.Places.{Rooms, allocas_ahead, front_at, instrs_in, instrs_of, name_at, own_at, phi_count, room_at, rooms_before, rooms_up_to}
use Rattle.pass_elide_proof.specs.Rooms.{IsAtRoom}
use Rattle.pass_elide_proof.specs.Statement.{AreRelated}
use Rattle.pass_proofs.proofs.ir_laws.facts.Lists.{get_before, get_behind}
use Rattle.pass_proofs.specs.frame_layout.declared.layout.Layout.{Layout}
use Rattle.pass_proofs.specs.ir_model.Ty.{array, int}
use Rattle.pass_proofs.specs.ir_model.declared.instr.Instr.{Instr}
use Rattle.pass_proofs.specs.ir_model.declared.module.Block.{Block}
use Rattle.pass_proofs.specs.ir_model.declared.module.Function.{Function}
use Rattle.pass_proofs.specs.ir_model.declared.operand.Callee.{Callee}
use Rattle.pass_proofs.specs.ir_paths.declared.point.Point.{Point}
use Rattle.pass_proofs.specs.run_framed.Framed.{no_layout}
use Rattle.pass_proofs.specs.run_framed.Framed.{layout_of as frame_layout_of}
use Rattle.pass_proofs.specs.run_laws.changed.Changed.{Each}
use Rattle.pass_proofs.specs.run_memory.declared.pointer.Pointer.{Pointer}
use Rattle.pass_proofs.specs.run_memory.declared.pointer.Value.{Value}
use Rattle.pass_proofs.specs.run_source.State.{is_finished}
use Rattle.pass_proofs.specs.run_source.declared.state.Activation.{Activation}
use Rattle.pass_proofs.specs.run_source.declared.state.Instance.{Instance}
use Rattle.pass_proofs.specs.run_source.declared.state.State.{State}
use Rattle.pass_proofs.specs.run_step.Step.{phis_of}
use Rattle.pass_proofs.specs.run_step.Values.{pointer_to, value_in}

-- ---- the alloca of a site stands in front of the entry block

each_at : (P : Instr → Type 0) (n : ℕ) (rs : List GivenFrame) (j m size align : ℕ)
    → slice_get rs j ≡ Some (GivenFrame.Alloca size align) → m ≡ n + j → Each P (frame_allocas n rs)
    → P (Instr.Alloca m (array size (int 8)) align)
each_at P n [] j m size align at is h = absurd (cc)
each_at P n (GivenFrame.Alloca a b ∷ rs) zero m size align at is h =
    let first : a ≡ size = cc in
    let second : b ≡ align = cc in
    let name : n ≡ m = omega (arith, is) in
    subst P (λ i. Instr.Alloca (name i) (array (first i) (int 8)) (second i)) h.0
each_at P n (GivenFrame.Alloca a b ∷ rs) (suc j) m size align at is h =
    each_at P (n + 1) rs j m size align at (omega (arith, is)) h.1
each_at P n (GivenFrame.Field base distance ∷ rs) zero m size align at is h = absurd (cc)
each_at P n (GivenFrame.Field base distance ∷ rs) (suc j) m size align at is h =
    each_at P (n + 1) rs j m size align at (omega (arith, is)) h

frames_at : (room : ℕ → Instr → Option GivenFrame) (q : ℕ) (is : List Instr) (k p : ℕ) (i : Instr) (r : GivenFrame)
    → slice_get is k ≡ Some i → room p i ≡ Some r → p ≡ q + k
    → slice_get (instr_frames room q is) (rooms_up_to room q is k) ≡ Some r
frames_at room q [] k p i r at given place = absurd (cc)
frames_at room q (x ∷ xs) zero p i r at given place =
    let same : x ≡ i = cc in
    let from : q ≡ p = omega (arith, place) in
    ap (λ (o : Option GivenFrame). slice_get (frames_by o ++ instr_frames room (q + 1) xs) 0)
    ((λ j. room (from j) (same j)) ∙ given)
frames_at room q (x ∷ xs) (suc k) p i r at given place =
    get_behind (frames_by (room q x)) (instr_frames room (q + 1) xs) (rooms_up_to room (q + 1) xs k)
    ∙ frames_at room (q + 1) xs k p i r at given (omega (arith, place))

blocks_at : (room : Rooms) (q : ℕ) (bs : List Block) (k p j : ℕ) (b : Block) (r : GivenFrame)
    → slice_get bs k ≡ Some b → p ≡ q + k → slice_get (block_frames room p b) j ≡ Some r
    → slice_get (blocks_frames room q bs) (rooms_before room q bs k + j) ≡ Some r
blocks_at room q [] k p j b r at place given = absurd (cc)
blocks_at room q (c ∷ bs) zero p j b r at place given =
    let same : c ≡ b = cc in
    let from : q ≡ p = omega (arith, place) in
    let start : 0 + j ≡ j = omega arith in
    get_before (block_frames room q c) (blocks_frames room (q + 1) bs) (0 + j) r
    ((λ i. slice_get (block_frames room (from i) (same i)) (start i)) ∙ given)
blocks_at room q (c ∷ bs) (suc k) p j b r at place given =
    let far : length (block_frames room q c) + rooms_before room (q + 1) bs k + j
    ≡ length (block_frames room q c) + (rooms_before room (q + 1) bs k + j) = omega arith in
    ap (slice_get (blocks_frames room q (c ∷ bs))) far
    ∙ (get_behind (block_frames room q c) (blocks_frames room (q + 1) bs) (rooms_before room (q + 1) bs k + j)
    ∙ blocks_at room (q + 1) bs k p j b r at (omega (arith, place)) given)

module _ (room : Rooms) (f : Function) (call : Point) (i : Instr) (size align : ℕ)
    (there : slice_get (instrs_of f call.block) call.at ≡ Some i)
    (given : room_at room f call.block call.at i ≡ Some (GivenFrame.Alloca size align)) where
  its_frame : (o : Option Block) → slice_get f.blocks call.block ≡ o → slice_get (instrs_in o) call.at ≡ Some i
      → room call.block (length (phis_of o) + call.at) i ≡ Some (GivenFrame.Alloca size align)
      → slice_get (function_frames room f)
      (rooms_before room 0 f.blocks call.block
      + rooms_up_to (room call.block) (length (phis_of o)) (instrs_in o) call.at)
      ≡ Some (GivenFrame.Alloca size align)
  its_frame None eo at is = absurd (cc)
  its_frame (Some b) eo at is =
      let from : call.block ≡ 0 + call.block = omega arith in
      blocks_at room 0 f.blocks call.block call.block
      (rooms_up_to (room call.block) (length b.phis) b.instrs call.at) b (GivenFrame.Alloca size align) eo from
      (frames_at (room call.block) (length b.phis) b.instrs call.at (length b.phis + call.at) i
      (GivenFrame.Alloca size align) at is refl)

  pub site_alloca : (P : Instr → Type 0) → Each P (allocas_ahead room f)
      → P (Instr.Alloca (name_at room f call.block call.at) (array size (int 8)) align)
  site_alloca P h =
      each_at P (length f.names) (function_frames room f)
      (rooms_before room 0 f.blocks call.block
      + rooms_up_to (room call.block) (phi_count f call.block) (instrs_of f call.block) call.at)
      (name_at room f call.block call.at) size align (its_frame (slice_get f.blocks call.block) refl there given) refl h

-- ---- it has the size of the callee's frame

found_size : (ls : List Layout) (func : ℕ) (o : Option Layout) → find (λ (l : Layout). l.coroutine == func) ls ≡ o
    → (size align : ℕ) → option_map frame_of o ≡ Some (GivenFrame.Alloca size align)
    → (frame_layout_of ls func).size ≡ size
found_size ls func None eo size align is = absurd (cc)
found_size ls func (Some l) eo size align is =
    let same : l.size ≡ size = cc in
    ap (λ (q : Option Layout). (unwrap_or q (no_layout func)).size) eo ∙ same

module _ (e : Elision) (func : ℕ) (plain : (function_in e func).coroutine ≡ false) where
  by_site : (b : Bool) (o : Option GivenFrame) (r : GivenFrame) → (if b then o else None) ≡ Some r → o ≡ Some r
  by_site true o r h = h
  by_site false o r h = absurd (cc)

  by_name : (i : Instr) (callee : ℕ) → callee_in e.code (Some i) ≡ Some callee → (size align : ℕ)
      → option_map frame_of (callee_layout e.code e.layouts.coroutines i) ≡ Some (GivenFrame.Alloca size align)
      → frame_size e callee ≡ size
  by_name (Instr.Call result must_tail ty (Callee.Named n) args) callee is size align h =
      found_size e.layouts.coroutines callee (layout_of e.layouts.coroutines callee) refl size align
      (sym (ap (λ (o : Option ℕ). option_map frame_of (option_and_then (layout_of e.layouts.coroutines) o)) is) ∙ h)
  by_name (Instr.Call result must_tail ty (Callee.Allocator a) args) callee is size align h = absurd (cc)
  by_name (Instr.Call result must_tail ty (Callee.Intrinsic j) args) callee is size align h = absurd (cc)
  by_name (Instr.Call result must_tail ty (Callee.Local v) args) callee is size align h = absurd (cc)
  by_name (Instr.Binary name op flags ty a b) callee is size align h = absurd (cc)
  by_name (Instr.Icmp name pred ty a b) callee is size align h = absurd (cc)
  by_name (Instr.Select name x a b) callee is size align h = absurd (cc)
  by_name (Instr.Cast name op nneg arg to) callee is size align h = absurd (cc)
  by_name (Instr.Alloca name ty al) callee is size align h = absurd (cc)
  by_name (Instr.Load name ty p al) callee is size align h = absurd (cc)
  by_name (Instr.Store arg p al) callee is size align h = absurd (cc)
  by_name (Instr.Gep name inbounds ty base indices) callee is size align h = absurd (cc)

  pub site_size : (block at : ℕ) (i : Instr) (callee size align : ℕ) → callee_in e.code (Some i) ≡ Some callee
      → rooms e func block at i ≡ Some (GivenFrame.Alloca size align) → frame_size e callee ≡ size
  site_size block at i callee size align is h =
      by_name i callee is size align
      (by_site (is_site e.sites (record { func = func; block = block; at = at }))
      (option_map frame_of (callee_layout e.code e.layouts.coroutines i)) (GivenFrame.Alloca size align)
      (sym (λ j. (if plain j then coroutine_frame (layout_of e.layouts.coroutines func) (function_in e func)
      else site_frame e.code e.layouts.coroutines e.sites func) block at i) ∙ h))

-- ---- the room

same_block : (a b : ℕ) → pointer_to a ≡ pointer_to b → a ≡ b
same_block a b h = ap target h
  where
    target : Value → ℕ
    target (Value.Ptr (Pointer.At b o)) = b
    target v = 0

module _ (e : Elision) (s t : State) (r : AreRelated e s t) (block : ℕ) (at : IsAtRoom e s t block) where
  abbrev d : Sides
  d = sides s t

  module _ (c : Activation) (below : List Activation) (is : t.below ≡ c ∷ below)
      (by : IsGivenBy e t.instances (pointer_to block) t.top c) (a : Activation)
      (h : (c.block ≡ a.block) × AreActivations e r.beside.homes r.beside.hides d a c) where
    same_there : by.block ≡ block
    same_there = same_block by.block block (sym by.is)

    abbrev f : Function
    f = function_in e c.func

    same_func : c.func ≡ a.func
    same_func = h.1.func

    bare : e.shape a.func ≡ no_shape
    bare = at.shapes a.func (ap (λ (n : ℕ). (function_in e n).coroutine) (sym same_func) ∙ by.site.plain)

    no_place : (n : ℕ) → None ≡ Some n → ⊥
    no_place n none = cc

    -- the caller isn't at its start
    place_on : IsAt e r.beside.homes (was_given d c) a c → a.at ≡ 0 → c.at ≡ 0
    place_on (Beside same there) here =
        there ∙ ap (front_at (rooms e a.func) (function_in e a.func) a.block) here
    place_on (Waiting ramp waits there) here =
        absurd (no_place c.block (sym (ap (λ (x : Shape). x.waits a.block) bare) ∙ waits))
    place_on (Freeing holds waits there) here =
        absurd (no_place c.block (sym (ap (λ (x : Shape). x.frees a.block) bare) ∙ waits))
    place_on (Aside holds waits there alike) here = there ∙ here

    stands_on : c.at ≡ own_at (rooms e c.func) f by.call.block by.call.at + 1
    stands_on =
        let next : by.call.at + 1 ≡ suc by.call.at = omega arith in
        by.stands.at ∙ ap (front_at (rooms e c.func) f by.call.block) next

    not_start : a.at ≡ 0 → ⊥
    not_start here =
        never_so c.at (own_at (rooms e c.func) f by.call.block by.call.at) (place_on h.1.place here) stands_on
      where
        never_so : (n m : ℕ) → n ≡ 0 → n ≡ m + 1 → ⊥
        never_so n m none one = omega (arith, none, one)

    abbrev size : ℕ
    size = by.site.size

    given : room_at (rooms e c.func) f by.call.block by.call.at by.instr ≡ Some (GivenFrame.Alloca size by.site.align)
    given = by.site.room

    abbrev HasOne : Instr → Type 0
    HasOne = HasAlloca r.beside.homes r.beside.hides d c h.1.own

    made : HasAllocas e r.beside.homes r.beside.hides d a c h.1.own
        → Each HasOne (allocas_ahead (rooms e c.func) f)
    made (inl first) = absurd (not_start first.1)
    made (inr all) =
        subst (λ (n : ℕ). Each HasOne (allocas_ahead (rooms e n) (function_in e n))) (sym same_func) all.0

    its_alloca : HasOne (Instr.Alloca (name_at (rooms e c.func) f by.call.block by.call.at) (array size (int 8))
        by.site.align)
    its_alloca =
        site_alloca (rooms e c.func) f by.call by.instr size by.site.align by.site.there given HasOne
        (made h.1.allocas)

    module _ (z : HasOne (Instr.Alloca (name_at (rooms e c.func) f by.call.block by.call.at) (array size (int 8))
        by.site.align)) where
      named : name_at (rooms e c.func) f by.call.block by.call.at ≡ z.name
      named = ap (name_in 0) z.is
        where
          name_in : ℕ → Instr → ℕ
          name_in k (Instr.Alloca n ty align) = n
          name_in k i = k

      sized : size ≡ z.size
      sized = same size z.size _ _ _ _ z.is
        where
          same : (p q n m k l : ℕ) → Instr.Alloca n (array p (int 8)) k ≡ Instr.Alloca m (array q (int 8)) l → p ≡ q
          same p q n m k l is = cc

      there : z.block ≡ block
      there =
          same_block z.block block
          (sym z.address ∙ (ap (value_in c.values) (sym named ∙ sym by.site.is_name) ∙ (by.address
          ∙ ap pointer_to same_there)))

      over : (i : ℕ) (y : Instance) → slice_get t.instances i ≡ Some y → y.block ≡ block
          → is_finished y.status ≡ true
      over i y to same = by.over i y to (same ∙ sym same_there)

      is_there : slice_get t.world.memory block ≡ Some z.there
      is_there = ap (slice_get t.world.memory) (sym there) ∙ z.is_there

      sized_so : z.there.size ≡ frame_size e s.top.func
      sized_so =
          z.sized ∙ (sym sized ∙ (sym (site_size e c.func by.site.plain by.call.block
          (phi_count f by.call.block + by.call.at) by.instr t.top.func size by.site.align
          (at.calls c below by.call by.instr by.name is by.site by.stands) given)
          ∙ ap (frame_size e) r.beside.top.func))

      room : HasRoomAt e s t r.beside block
      room = record {
        there = z.there;
        is_there = is_there;
        kind = z.kind;
        live = z.live;
        unowned = at.unowned z.there is_there z.kind over;
        sized = sized_so;
        full = z.full ∙ sym z.sized;
        over = over;
        gone = λ i x y p first second same own.
            at.dead i x p first
            (r.renewed i block 0 x y t.top first second here at.alone at.mode same (at.starts i y second)) own;
        free = λ n lt calm free same. z.free n lt calm free (same ∙ sym there);
      }
        where
          here : Contains (t.top ∷ t.below) t.top
          here = (0, omega arith, refl)

    has_room : HasRoomAt e s t r.beside block
    has_room = room its_alloca

  by_caller : (below : List Activation) → t.below ≡ below → (others : List Activation)
      → AreBelow e r.beside.homes r.beside.hides d others below
      → AreGivenBy e t.instances (t.top ∷ below) → HasRoomAt e s t r.beside block
  by_caller [] is others h ramps = absurd (ramps (pointer_to block) at.mode)
  by_caller (c ∷ below) is [] h ramps = absurd h
  by_caller (c ∷ below) is (a ∷ others) h ramps =
      has_room c below is (ramps.0 (pointer_to block) at.mode at.alone) a h.0

  pub room_is_given : HasRoomAt e s t r.beside block
  room_is_given = by_caller t.below refl s.below r.beside.below r.callers.ramps
