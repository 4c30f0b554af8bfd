-- Records of a framed module where each shape is that of a form, or of none.
use Rattle.std.proofs.Common.{◌≡◌, ◌<◌, ◌^◌, ℕ, false}
use Rattle.std.specs.Prelude.{IsFalse}
use Rattle.elide_sites.specs.Destroyed.{IsOn, has_at, is_stop}
use Rattle.elide_sites.specs.Sites.{AreSites}
use Rattle.elide_sites.specs.declared.destroyed.Way.{Way}
use Rattle.pass_elide_kept.specs.Modules.{KeepsHandlesAndEnds}
use Rattle.pass_elide_known.specs.Keeping.{KeepsMore, KeepsPhi}
use Rattle.pass_elide_edges.proofs.pass_elide_proof.Allocas.{knows_allocas}
use Rattle.pass_elide_edges.specs.pass_elide_proof.CallersStack.{ReturnsFrame}
use Rattle.pass_elide_edges.specs.pass_elide_proof.Edges.{label_from, phis_at}
use Rattle.pass_elide_edges.specs.pass_elide_proof.Elision.{Elision, elided_code, framed, function_in}
use Rattle.pass_elide_edges.specs.pass_elide_proof.Match.{frame_size}
use Rattle.pass_elide_edges.specs.pass_elide_proof.Placing.{HasShape}
use Rattle.pass_elide_edges.specs.pass_elide_proof.Releasing.{HoldsOfRooms}
use Rattle.pass_elide_edges.specs.pass_elide_proof.Sound.{NestsNone}
use Rattle.pass_elide_edges.specs.Keeping.{SetsKnown}
use Rattle.pass_elide_ready.proofs.Entries.{leads_to_no_entry}
use Rattle.pass_elide_ready.proofs.Forms.{allocations, asides, form_frees, freeing, frees, phis, plain, tests}
use Rattle.pass_elide_ready.proofs.Modules.{all_rules, allocas, begins, first_unmarked, marks, named, none_taken, once, switched, switches, types}
use Rattle.pass_elide_ready.proofs.SitesKept.{handles_destroyed}
use Rattle.pass_elide_ready.specs.Form.{AreFormed, IsFormed}
use Rattle.pass_elide_ready.specs.Ruled.{IsRuled}
use Rattle.pass_elide_runs.specs.Ends.{EndsOnce}
use Rattle.pass_elide_runs.specs.Keeps.{KeepsRuns}
use Rattle.pass_elide_edges.proofs.pass_elide_proof.pass_proofs.ir_laws.paths.woven_rules.Unbroken.{each_listed, of_listed}
use Rattle.pass_elide_edges.specs.pass_elide_proof.pass_proofs.ir_model.Names.{function_at}
use Rattle.pass_elide_edges.specs.pass_elide_proof.pass_proofs.ir_model.declared.instr.Phi.{Phi}
use Rattle.pass_elide_edges.specs.pass_elide_proof.pass_proofs.ir_model.declared.module.Module.{Module}
use Rattle.pass_elide_edges.specs.pass_elide_proof.pass_proofs.ir_model.declared.operand.Operand.{Operand}
use Rattle.pass_elide_edges.specs.pass_elide_proof.pass_proofs.run_step.Step.{incoming_from}
use Rattle.run_hooks.specs.Away.{KeepsAllPlaceRules}

module _ (e : Elision) (ruled : IsRuled e.code) (forms : AreFormed e) where
  -- ---- runs

  pub keeps_runs : KeepsAllPlaceRules (framed e).given → ((func : ℕ) → EndsOnce (function_in e func))
      → ((func : ℕ) → frame_size e func < 2 ^ 32) → KeepsRuns e
  keeps_runs places ends small = record {
    switches = switches e.code ruled;
    switched = switched e.code ruled;
    places = places;
    ends = ends;
    allocas = allocas e.code ruled;
    named = named e.code ruled;
    plain = plain e ruled forms;
    marks = marks e.code ruled;
    known = knows_allocas e.code e.layouts.coroutines e.answers;
    known_giving = knows_allocas (elided_code e) e.layouts.coroutines e.answers;
    types = types e.code ruled;
    small = small;
  }

  -- ---- known places

  pub keeps_more : HoldsOfRooms (IsFormed e) e → NestsNone (framed e) → KeepsMore e
  keeps_more formed nests = record {
    freeing = freeing e ruled forms;
    tests = tests e ruled forms;
    asides = asides e ruled forms;
    phis = λ func block at to i stands is.
        each_listed (KeepsPhi e func (label_from (function_in e func) block)) (phis_at (function_in e func) to)
        (λ p l.
        let x : SetsKnown (function_in e func) (e.shape func) p =
        of_listed (SetsKnown (function_in e func) (e.shape func)) (phis_at (function_in e func) to)
        (phis e ruled forms func to) p l in
        record {
          low = x.known;
          answers = x.answers;
          takes = λ v taken. absurd (of_listed (λ (q : Phi). (w : ℕ)
              → incoming_from q.incoming (label_from (function_in e func) block) ≡ Operand.Local w → ⊥)
              (phis_at (function_in e func) to) (none_taken e.code ruled func block at to i stands is) p l v taken);
        });
    unmarked = first_unmarked e.code ruled;
    frees = λ func block at callee result must_tail ty n args r there room given.
        form_frees e ruled callee (formed func block at callee result must_tail ty n args r there room given);
    nests = nests;
  }

  -- ---- handles and ends

  pub keeps_handles_and_ends : (source : Module) → AreSites source e.sites
      → ((func : ℕ) → (function_at source func).coroutine ≡ false → function_in e func ≡ function_at source func)
      → ((func : ℕ) → HasShape e func → ReturnsFrame (function_in e func))
      → ((func : ℕ) → HasShape e func → (b : ℕ) → IsOn Way.Destroyed (function_in e func) b
      → IsFalse (has_at is_stop (function_in e func) b))
      → KeepsHandlesAndEnds e
  keeps_handles_and_ends source sites same returns still = record {
    handles = λ func plain.
        record { once = once e.code ruled func; destroyed = handles_destroyed e source sites same func };
    returns = returns;
    begins = begins e.code ruled;
    entries = leads_to_no_entry e.code (all_rules e.code ruled);
    allocations = allocations e ruled forms;
    frees = frees e ruled forms;
    still = still;
  }
