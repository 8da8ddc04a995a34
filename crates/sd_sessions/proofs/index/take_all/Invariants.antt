use Rattle.std.proofs.Common.{ℕ, List, ◌++◌, IsPermutation, take, drop}
use Rattle.sd_index.specs.declared.asker.Asker.{Asker}
use Rattle.sd_index.specs.Asked.{askers_of}
use Rattle.sd_sessions.specs.Kept.{AreWellFormed}
use Rattle.sd_sessions.specs.Indexed.{asking_of}
use Rattle.sd_sessions.proofs.index.take_all.Given as goal

abbrev pub invariant-loop-operation : goal.invariant-loop-operation
invariant-loop-operation l =
    record {
      left : (owner : List ℕ) (rest : List Asker) → IsPermutation (askers_of owner l.initial.askers.entries) (asking_of owner (take l.operation-index l.operations) ++ rest) →
          IsPermutation (askers_of owner l.askers.entries) rest;
      formed : AreWellFormed (drop l.operation-index l.operations);
    }
