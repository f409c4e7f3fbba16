use Rattle.std.proofs.Common.{ℕ, [], map, take, Bool}
use Rattle.lol_machine.specs.Refusals.{Allowance}
use Rattle.lol_machine.specs.Views.{selectors}
use Rattle.lol_program.specs.declared.ast.Ast.{Ast}
use Rattle.lol_vm.specs.Handlers.{IsCalledWithAnswers}
use Rattle.lol_vm.specs.TagEvents.{event_of}
use Rattle.lol_vm.specs.ToldEvents.{WasTold}
use Rattle.lol_vm.proofs.run.answer_events.Given as goal

abbrev pub invariant-loop-number : goal.invariant-loop-number
invariant-loop-number g l =
    record {
      callable : goal.F-IsAlwaysCallable g l.handler;
      told : (ast : Ast) (esi : Bool) (a : Allowance) → WasTold ast esi a [] l.initial.matcher
          → IsCalledWithAnswers (λ p x r q. goal.F-step g p x r q) (selectors ast) esi (map event_of (take l.number l.events)) l.initial.handler l.handler;
      runs : (ast : Ast) (esi : Bool) (a : Allowance) → WasTold ast esi a [] l.initial.matcher → WasTold ast esi a (map event_of (take l.number l.events)) l.matcher;
    }
