-- What the sites of a source give of its framed form: handles are destroyed, and callees are elidable in the source.
use Rattle.std.proofs.Common.{◌≡◌, ℕ, ◌+◌, Bool, true, false, length, refl, sym, ap, ◌∙◌, subst, arith}
use Rattle.std.specs.Prelude.{None, Option, Some, option_map, slice_get, unwrap_or, if◌then◌else◌}
use Rattle.elide_sites.specs.Elidable.{IsElidable}
use Rattle.elide_sites.specs.Sites.{AreSites, IsDestroyed, callee_in}
use Rattle.pass_elide.specs.Elided.{coroutine_frame}
use Rattle.pass_elide.specs.Frames.{callee_layout, frame_of, layout_of, site_frame}
use Rattle.pass_elide.specs.Places.{is_site}
use Rattle.pass_elide.specs.declared.given.GivenFrame.{GivenFrame}
use Rattle.pass_elide_edges.specs.pass_elide_proof.Calling.{DestroysHandles}
use Rattle.pass_elide_edges.specs.pass_elide_proof.Elision.{Elision, function_in, rooms}
use Rattle.pass_elide_edges.specs.pass_elide_proof.Places.{instrs_in, phi_count as own_count, room_at}
use Rattle.pass_elide_ready.proofs.Names.{at_point}
use Rattle.pass_elide_ready.proofs.SitesListed.{IsSiteThere, site_there}
use Rattle.pass_elide_edges.specs.pass_elide_proof.pass_proofs.ir_base.declared.name.Name.{Name}
use Rattle.pass_elide_edges.specs.pass_elide_proof.pass_proofs.ir_model.Names.{function_at, function_named, no_function}
use Rattle.pass_elide_edges.specs.pass_elide_proof.pass_proofs.ir_model.declared.instr.Instr.{Instr}
use Rattle.pass_elide_edges.specs.pass_elide_proof.pass_proofs.ir_model.declared.module.Block.{Block}
use Rattle.pass_elide_edges.specs.pass_elide_proof.pass_proofs.ir_model.declared.module.Function.{Function}
use Rattle.pass_elide_edges.specs.pass_elide_proof.pass_proofs.ir_model.declared.module.Module.{Module}
use Rattle.pass_elide_edges.specs.pass_elide_proof.pass_proofs.ir_model.declared.operand.Callee.{Callee}
use Rattle.pass_elide_edges.specs.pass_elide_proof.pass_proofs.ir_paths.Windows.{instr_at}
use Rattle.pass_elide_edges.specs.pass_elide_proof.pass_proofs.ir_paths.declared.point.Point.{Point}
use Rattle.pass_elide_edges.specs.pass_elide_proof.pass_proofs.rule_windows.Points.{phi_count, phis_in}
use Rattle.pass_elide_edges.specs.pass_elide_proof.pass_proofs.run_step.Step.{phis_of}

same_count : (o : Option Block) → length (phis_of o) ≡ phis_in o
same_count None = refl
same_count (Some b) = refl

by_site : (b : Bool) (o : Option GivenFrame) (r : GivenFrame) → (if b then o else None) ≡ Some r → b ≡ true
by_site true o r e = refl
by_site false o r e = absurd (cc)

same_callee : (m n : Module) → ((x : Name) → function_named n x ≡ function_named m x) → (i : Instr)
    → callee_in n (Some i) ≡ callee_in m (Some i)
same_callee m n names (Instr.Call result must_tail ty (Callee.Named x) args) = names x
same_callee m n names (Instr.Call result must_tail ty (Callee.Allocator a) args) = refl
same_callee m n names (Instr.Call result must_tail ty (Callee.Intrinsic j) args) = refl
same_callee m n names (Instr.Call result must_tail ty (Callee.Local v) args) = refl
same_callee m n names (Instr.Binary name op flags ty a b) = refl
same_callee m n names (Instr.Icmp name pred ty a b) = refl
same_callee m n names (Instr.Select name x a b) = refl
same_callee m n names (Instr.Cast name op nneg arg to) = refl
same_callee m n names (Instr.Alloca name ty align) = refl
same_callee m n names (Instr.Load name ty p align) = refl
same_callee m n names (Instr.Store arg p align) = refl
same_callee m n names (Instr.Gep name inbounds ty base indices) = refl

there_is : (m : Module) (k : ℕ) (f : Function) → slice_get m.functions k ≡ Some f → function_at m k ≡ f
there_is m k f e = ap (λ (o : Option Function). unwrap_or o no_function) e

module _ (e : Elision) (source : Module) (sites : AreSites source e.sites)
    (same : (func : ℕ) → (function_at source func).coroutine ≡ false
    → function_in e func ≡ function_at source func) where
  module _ (func : ℕ) (call : Point) (i : Instr) (plain : (function_in e func).coroutine ≡ false)
      (there : slice_get (instrs_in (slice_get (function_in e func).blocks call.block)) call.at ≡ Some i)
      (r : GivenFrame)
      (room : room_at (rooms e func) (function_in e func) call.block call.at i ≡ Some r) where
    abbrev f : Function
    f = function_in e func

    abbrev place : ℕ
    place = own_count f call.block + call.at

    listed : is_site e.sites (record { func = func; block = call.block; at = place }) ≡ true
    listed = by_site (is_site e.sites (record { func = func; block = call.block; at = place }))
        (option_map frame_of (callee_layout e.code e.layouts.coroutines i)) r
        (sym (ap (λ (b : Bool). (if b then coroutine_frame (layout_of e.layouts.coroutines func) f
        else site_frame e.code e.layouts.coroutines e.sites func) call.block place i) plain) ∙ room)

    x : IsSiteThere source func call.block place
    x = site_there source e.sites sites func call.block place listed

    function_is : function_in e func ≡ x.function
    function_is =
        let one = there_is source func x.function x.there in
        same func (ap (λ (g : Function). g.coroutine) one ∙ x.plain) ∙ one

    point_is : x.point ≡ call
    point_is =
        let block = x.block_is in
        let counts : phi_count x.function x.point.block ≡ own_count f call.block =
        ap (λ (g : Function). phi_count g x.point.block) (sym function_is) ∙ ap (phi_count f) block
        ∙ sym (same_count (slice_get f.blocks call.block)) in
        let sum = x.at_is in
        let at : x.point.at ≡ call.at = omega (arith, counts, sum) in
        (λ z. record { block = block z; at = at z })

    here : instr_at f call ≡ Some i
    here = at_point f call.block call.at i there

    one_instr : x.instr ≡ i
    one_instr =
        let both : Some x.instr ≡ Some i =
        sym x.stands ∙ ap (instr_at x.function) point_is ∙ ap (λ (g : Function). instr_at g call) (sym function_is)
        ∙ here in
        cc

    pub handle_destroyed : IsDestroyed (function_in e func) call
    handle_destroyed =
        subst (λ (p : Point). IsDestroyed (function_in e func) p) point_is
        (subst (λ (g : Function). IsDestroyed g x.point) (sym function_is) x.site.handled.is_destroyed)

    module _ (names : (n : Name) → function_named e.code n ≡ function_named source n) where
      pub callee_elidable : (callee : ℕ) → callee_in e.code (Some i) ≡ Some callee
          → IsElidable (function_at source callee)
      callee_elidable callee is =
          let calls = x.site.calls in
          let both : Some calls.callee ≡ Some callee =
          sym calls.is_callee ∙ ap (callee_in source) (x.stands ∙ ap Some one_instr)
          ∙ sym (same_callee source e.code names i) ∙ is in
          let one : calls.callee ≡ callee = cc in
          subst (λ (k : ℕ). IsElidable (function_at source k)) one calls.is_elidable

  pub handles_destroyed : (func : ℕ) → DestroysHandles e func
  handles_destroyed func call i name s =
      handle_destroyed func call i s.plain s.there (GivenFrame.Alloca s.size s.align) s.room
