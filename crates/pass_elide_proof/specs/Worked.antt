-- The framed form of a module whose `main` calls a coroutine, resumes and destroys it, and the same with the call
-- elided.
use Rattle.std.specs.Prelude.{◌≡◌, ◌+◌, ℕ, Bool, true, false, List, [], ◌∷◌, Some, None, Option, codes, pos, ◌||◌, ◌==◌, nat_le, ◌&&◌, if◌then◌else◌}
use Rattle.pass_elide_proof.specs.Counts.{capped, given_frames}
use Rattle.pass_elide_proof.specs.Elision.{Elision, Shape, elided, framed, no_shape}
use Rattle.pass_proofs.specs.frame_layout.declared.layout.FieldKind.{FieldKind}
use Rattle.pass_proofs.specs.frame_layout.declared.layout.Layouts.{Layouts}
use Rattle.pass_proofs.specs.ir_base.declared.name.Name.{Name}
use Rattle.pass_proofs.specs.ir_base.declared.ops.BinOp.{BinOp}
use Rattle.pass_proofs.specs.ir_base.declared.outcome.Item.{Item}
use Rattle.pass_proofs.specs.ir_base.declared.outcome.Outcome.{Outcome}
use Rattle.pass_proofs.specs.ir_base.declared.outcome.Place.{Place}
use Rattle.pass_proofs.specs.ir_model.Names.{numbered}
use Rattle.pass_proofs.specs.ir_model.Ty.{array, int, ptr, token}
use Rattle.pass_proofs.specs.ir_model.declared.instr.Instr.{Instr}
use Rattle.pass_proofs.specs.ir_model.declared.instr.Terminator.{Terminator}
use Rattle.pass_proofs.specs.ir_model.declared.module.Function.{Function}
use Rattle.pass_proofs.specs.ir_model.declared.module.Module.{Module}
use Rattle.pass_proofs.specs.ir_model.declared.operand.Allocator.{Allocator}
use Rattle.pass_proofs.specs.ir_model.declared.operand.Callee.{Callee}
use Rattle.pass_proofs.specs.ir_model.declared.operand.Intrinsic.{Intrinsic}
use Rattle.pass_proofs.specs.ir_model.declared.operand.Operand.{Operand}
use Rattle.pass_proofs.specs.run_framed.Framed.{framed_state_at}
use Rattle.pass_proofs.specs.run_source.declared.state.State.{State}

-- ---- the modules

abbrev pub a_coroutine : Function
a_coroutine =
    record {
      name = Name.Text (codes "g");
      result = Some ptr;
      params = record { ty = int 32; name = 0 } ∷ [];
      coroutine = true;
      blocks =
          record {
            label = 1;
            phis = [];
            instrs =
                (Instr.Alloca 24 (int 32) 4)
                ∷ (Instr.Call (Some 2) false (Some token) (Callee.Intrinsic Intrinsic.CoroId)
                (record { ty = int 32; value = Operand.Number (pos 0) }
                ∷ record { ty = ptr; value = Operand.Null } ∷ record { ty = ptr; value = Operand.Null }
                ∷ record { ty = ptr; value = Operand.Null } ∷ []))
                ∷ (Instr.Call (Some 3) false (Some (int 1)) (Callee.Intrinsic Intrinsic.CoroAlloc)
                (record { ty = token; value = Operand.Local 2 } ∷ []))
                ∷ [];
            term = Terminator.Branch (Operand.Local 3) 4 18;
          }
          ∷ record {
            label = 18;
            phis = [];
            instrs =
                [];
            term = Terminator.Jump 5;
          }
          ∷ record {
            label = 4;
            phis = [];
            instrs =
                (Instr.Call (Some 6) false (Some (int 32)) (Callee.Intrinsic Intrinsic.CoroSizeI32) ([]))
                ∷ (Instr.Call (Some 7) false (Some ptr) (Callee.Allocator Allocator.Malloc)
                (record { ty = int 32; value = Operand.Local 6 } ∷ []))
                ∷ [];
            term = Terminator.Jump 19;
          }
          ∷ record {
            label = 19;
            phis = [];
            instrs =
                [];
            term = Terminator.Jump 5;
          }
          ∷ record {
            label = 5;
            phis = record {
              result = 8;
              ty = ptr;
              incoming = record { value = Operand.Null; from = 18 }
                  ∷ record { value = Operand.Local 7; from = 19 } ∷ [];
            } ∷ [];
            instrs =
                (Instr.Call (Some 9) false (Some ptr) (Callee.Intrinsic Intrinsic.CoroBegin)
                (record { ty = token; value = Operand.Local 2 }
                ∷ record { ty = ptr; value = Operand.Local 8 } ∷ []))
                ∷ [];
            term = Terminator.Jump 20;
          }
          ∷ record {
            label = 20;
            phis = [];
            instrs =
                [];
            term = Terminator.Jump 10;
          }
          ∷ record {
            label = 10;
            phis = record {
              result = 11;
              ty = int 32;
              incoming = record { value = Operand.Local 0; from = 20 }
                  ∷ record { value = Operand.Local 29; from = 21 } ∷ [];
            } ∷ [];
            instrs =
                (Instr.Binary 12 BinOp.Add (record { nuw = false; nsw = true; exact = false; disjoint = false })
                (int 32) (Operand.Local 11) (Operand.Number (pos 1)))
                ∷ (Instr.Store (record { ty = int 32; value = Operand.Local 12 }) (Operand.Local 24) 4)
                ∷ (Instr.Call None false None (Callee.Named (Name.Text (codes "print")))
                (record { ty = int 32; value = Operand.Local 11 } ∷ []))
                ∷ (Instr.Load 25 (int 32) (Operand.Local 24) 4)
                ∷ (Instr.Gep 26 false (int 8) (Operand.Local 9) (record {
                  ty = int 64;
                  value = Operand.Number
                      (pos 16);
                } ∷ []))
                ∷ (Instr.Store (record { ty = int 32; value = Operand.Local 25 }) (Operand.Local 26) 4)
                ∷ (Instr.Call (Some 23) false (Some token) (Callee.Intrinsic Intrinsic.CoroSave)
                (record { ty = ptr; value = Operand.Null } ∷ []))
                ∷ (Instr.Call (Some 13) false (Some (int 8)) (Callee.Intrinsic Intrinsic.CoroSuspend)
                (record { ty = token; value = Operand.Local 23 } ∷ record { ty = int 1; value = Operand.False }
                ∷ []))
                ∷ [];
            term = Terminator.Switch (record { ty = int 8; value = Operand.Local 13 }) 14
                (record { arg = record { ty = int 8; value = Operand.Number (pos 0) }; target = 21 }
                ∷ record { arg = record { ty = int 8; value = Operand.Number (pos 1) }; target = 22 } ∷ []);
          }
          ∷ record {
            label = 21;
            phis = [];
            instrs =
                (Instr.Gep 27 false (int 8) (Operand.Local 9) (record {
                  ty = int 64;
                  value = Operand.Number
                      (pos 16);
                } ∷ []))
                ∷ (Instr.Load 28 (int 32) (Operand.Local 27) 4)
                ∷ (Instr.Store (record { ty = int 32; value = Operand.Local 28 }) (Operand.Local 24) 4)
                ∷ (Instr.Load 29 (int 32) (Operand.Local 24) 4)
                ∷ [];
            term = Terminator.Jump 10;
          }
          ∷ record {
            label = 22;
            phis = [];
            instrs =
                (Instr.Gep 30 false (int 8) (Operand.Local 9) (record {
                  ty = int 64;
                  value = Operand.Number
                      (pos 16);
                } ∷ []))
                ∷ (Instr.Load 31 (int 32) (Operand.Local 30) 4)
                ∷ (Instr.Store (record { ty = int 32; value = Operand.Local 31 }) (Operand.Local 24) 4)
                ∷ [];
            term = Terminator.Jump 15;
          }
          ∷ record {
            label = 15;
            phis = [];
            instrs =
                (Instr.Call (Some 16) false (Some ptr) (Callee.Intrinsic Intrinsic.CoroFree)
                (record { ty = token; value = Operand.Local 2 }
                ∷ record { ty = ptr; value = Operand.Local 9 } ∷ []))
                ∷ (Instr.Call None false None (Callee.Allocator Allocator.Free)
                (record { ty = ptr; value = Operand.Local 16 } ∷ []))
                ∷ [];
            term = Terminator.Jump 14;
          }
          ∷ record {
            label = 14;
            phis = [];
            instrs =
                (Instr.Call (Some 17) false (Some (int 1)) (Callee.Intrinsic Intrinsic.CoroEnd)
                (record { ty = ptr; value = Operand.Local 9 } ∷ record { ty = int 1; value = Operand.False }
                ∷ record { ty = token; value = Operand.None } ∷ []))
                ∷ [];
            term = Terminator.Ret (Some (record { ty = ptr; value = Operand.Local 9 }));
          }
          ∷ [];
      names =
          Name.Text (codes "n") ∷ Name.Text (codes "entry") ∷ Name.Text (codes "id") ∷ Name.Text (codes "need") ∷
          Name.Text (codes "dyn") ∷ Name.Text (codes "start") ∷ Name.Text (codes "size") ∷ Name.Text (codes "m") ∷
          Name.Text (codes "mem") ∷ Name.Text (codes "h") ∷ Name.Text (codes "loop") ∷ Name.Text (codes "v") ∷
          Name.Text (codes "inc") ∷ Name.Text (codes "s") ∷ Name.Text (codes "end") ∷ Name.Text (codes "clean") ∷
          Name.Text (codes "fm") ∷ Name.Text (codes "e") ∷ Name.Text (codes "$c.edge.0") ∷
          Name.Text (codes "$c.edge.1") ∷ Name.Text (codes "$c.edge.2") ∷ Name.Text (codes "$c.edge.3") ∷
          Name.Text (codes "$c.edge.4") ∷ Name.Text (codes "$c.save.0") ∷ Name.Text (codes "$c.cell.0") ∷
          Name.Text (codes "$c.kept.0") ∷ Name.Text (codes "$c.at.0") ∷ Name.Text (codes "$c.at.1") ∷
          Name.Text (codes "$c.kept.1") ∷ Name.Text (codes "$c.use.0") ∷ Name.Text (codes "$c.at.2") ∷
          Name.Text (codes "$c.kept.3") ∷ [];
    }

abbrev pub a_caller : Function
a_caller =
    record {
      name = Name.Text (codes "main");
      result = Some (int 32);
      params = [];
      coroutine = false;
      blocks =
          record {
            label = 0;
            phis = [];
            instrs =
                (Instr.Call (Some 1) false (Some ptr) (Callee.Named (Name.Text (codes "g")))
                (record { ty = int 32; value = Operand.Number (pos 4) } ∷ []))
                ∷ (Instr.Call None false None (Callee.Intrinsic Intrinsic.CoroResume)
                (record { ty = ptr; value = Operand.Local 1 } ∷ []))
                ∷ (Instr.Call None false None (Callee.Intrinsic Intrinsic.CoroDestroy)
                (record { ty = ptr; value = Operand.Local 1 } ∷ []))
                ∷ [];
            term = Terminator.Ret (Some (record { ty = int 32; value = Operand.Number (pos 0) }));
          }
          ∷ [];
      names =
          Name.Text (codes "entry") ∷ Name.Text (codes "h") ∷ [];
    }

abbrev pub an_elided_caller : Function
an_elided_caller =
    record {
      name = Name.Text (codes "main");
      result = Some (int 32);
      params = [];
      coroutine = false;
      blocks =
          record {
            label = 0;
            phis = [];
            instrs =
                (Instr.Alloca 2 (array 24 (int 8)) 8)
                ∷ (Instr.Call (Some 1) false (Some ptr) (Callee.Named (Name.Text (codes "g.noalloc")))
                (record { ty = int 32; value = Operand.Number (pos 4) }
                ∷ record { ty = ptr; value = Operand.Local 2 } ∷ []))
                ∷ (Instr.Call None false None (Callee.Intrinsic Intrinsic.CoroResume)
                (record { ty = ptr; value = Operand.Local 1 } ∷ []))
                ∷ (Instr.Call None false None (Callee.Intrinsic Intrinsic.CoroDestroy)
                (record { ty = ptr; value = Operand.Local 1 } ∷ []))
                ∷ [];
            term = Terminator.Ret (Some (record { ty = int 32; value = Operand.Number (pos 0) }));
          }
          ∷ [];
      names =
          Name.Text (codes "entry") ∷ Name.Text (codes "h") ∷ numbered (codes "$c.callee.") 0 ∷ [];
    }

abbrev pub module_of : Function → Module
module_of f =
    record {
      types = [];
      globals = [];
      declarations =
          record { name = Name.Text (codes "print"); result = None; params = int 32 ∷ [] }
          ∷ record { name = Name.Text (codes "malloc"); result = Some ptr; params = int 32 ∷ [] }
          ∷ record { name = Name.Text (codes "free"); result = None; params = ptr ∷ [] }
          ∷ [];
      functions = a_coroutine ∷ f ∷ [];
    }

abbrev pub the_layouts : Layouts
the_layouts =
    record {
      coroutines =
          record {
            coroutine = 0;
            size = 24;
            align = 8;
            index = 20;
            offsets = 16 ∷ 20 ∷ [];
            fields =
                record { kind = FieldKind.Value; name = None; offset = 16; size = 4 }
                ∷ record { kind = FieldKind.Index; name = None; offset = 20; size = 1 } ∷ [];
          }
          ∷ [];
    }

-- the call of the coroutine
abbrev pub the_sites : List Place
the_sites = record { item = Item.Function 1; block = Some 0; instr = Some 0 } ∷ []

-- ---- what differs where the frame was given

-- block 0 asks, 2 allocates, 3 and 1 are on the edges behind, and 4 begins
abbrev pub waits_at : ℕ → Option ℕ
waits_at block = if block == 2 then Some 0 else None

abbrev pub aside_of : ℕ → Option ℕ
aside_of block = if block == 3 then Some 1 else None

-- what coro.size, malloc and the phi give
abbrev pub is_made : ℕ → Bool
is_made v = (v == 6) || (v == 7) || (v == 8)

abbrev pub held_at : ℕ → ℕ → Option ℕ
held_at block at =
    if (block == 2) && nat_le 2 at then Some 7
    else if block == 3 then Some 7 else if (block == 4) && (at == 0) then Some 8 else None

abbrev pub the_shape : Shape
the_shape =
    record {
      waits = waits_at;
      frees = λ b. None;
      aside = aside_of;
      need = λ v. v == 3;
      made = is_made;
      freed = λ v. v == 16;
      tested = λ v. None;
      passed = λ v. false;
      holds = held_at;
    }

abbrev pub the_elision : Elision
the_elision =
    record {
      code = module_of a_caller;
      layouts = the_layouts;
      sites = the_sites;
      answers = [];
      shape = λ func. if func == 0 then the_shape else no_shape;
    }

-- ---- its runs

-- both have returned 0 behind the same calls, and the first made one allocator call more
pub record HaveEnded (s t : State) : Type 0 where
  pub first : s.outcome ≡ Outcome.Returned (Some (record { width = 32; bits = 0 }))
  pub second : t.outcome ≡ Outcome.Returned (Some (record { width = 32; bits = 0 }))
  pub events : t.world.events ≡ s.world.events
  pub allocs : s.world.allocs ≡ capped (t.world.allocs + given_frames t)
  pub one : t.world.allocs + 1 ≡ s.world.allocs

abbrev pub before : ℕ → State
before n = framed_state_at (framed the_elision) 1 [] n

abbrev pub after : ℕ → State
after n = framed_state_at (elided the_elision) 1 [] n
