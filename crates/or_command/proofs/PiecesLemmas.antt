-- A text that is written piece by piece.
use Rattle.std.proofs.Common.{◌∙◌, sym, refl, subst, ℕ, List, [], ◌++◌, append_assoc, append-nil}
use Rattle.or_host.specs.Bytes.{AddsPrefix}
use Rattle.or_host.specs.Told.{TellsStep}
use Rattle.or_host.specs.HostState.{HostState}
use Rattle.or_command.proofs.TellsLemmas.{same_refl, same_then, adds_none, none_prefix, adds_then, adds_then_prefix, prefix_longer, rose_after, no_fault_then}
use Rattle.or_command.specs.declared.pieces.PieceStop.{PieceStop}
use Rattle.or_command.specs.declared.pieces.PieceStop.TheVariants.{Unwritten, NoMemory}
use Rattle.or_command.specs.Pieces.{Wrote, WroteUntilLack, StopsWriting, SoFar}

-- nothing yet
pub wrote_none : (a : HostState) → Wrote [] a a
wrote_none a = record {
  names = λ name. same_refl (a.holds name);
  written = adds_none a.written a.written (same_refl a.written);
  no_fault = record { faults = refl; blame = refl };
}

pub begins : (whole : List ℕ) (a : HostState) → SoFar whole whole a a
begins whole a = record { text = []; parts = refl; wrote = wrote_none a }

-- a piece more
pub goes_on : (piece rest whole : List ℕ) (a b c : HostState) → SoFar (piece ++ rest) whole a b → Wrote piece b c → SoFar rest whole a c
goes_on piece rest whole a b c so_far wrote = record {
  text = so_far.text ++ piece;
  parts = so_far.parts ∙ sym (append_assoc so_far.text piece rest);
  wrote = record {
    names = λ name. same_then (a.holds name) (b.holds name) (c.holds name) (so_far.wrote.names name) (wrote.names name);
    written = adds_then so_far.text piece a.written b.written c.written so_far.wrote.written wrote.written;
    no_fault = no_fault_then a b c so_far.wrote.no_fault wrote.no_fault;
  };
}

-- all of it
pub ends : (whole : List ℕ) (a b : HostState) → SoFar [] whole a b → Wrote whole a b
ends whole a b so_far = subst (λ (text : List ℕ). Wrote text a b) (sym (so_far.parts ∙ append-nil so_far.text)) so_far.wrote

-- a prefix of a piece behind what was written is a prefix of the whole
written_until : (piece rest whole : List ℕ) (a b c : HostState) → SoFar (piece ++ rest) whole a b → TellsStep (AddsPrefix piece) b.written c.written
    → TellsStep (AddsPrefix whole) a.written c.written
written_until piece rest whole a b c so_far written =
    subst (λ (text : List ℕ). TellsStep (AddsPrefix text) a.written c.written) (sym so_far.parts)
    (adds_then_prefix so_far.text (piece ++ rest) a.written b.written c.written so_far.wrote.written (prefix_longer piece rest b.written c.written written))

-- a piece that is not wholly written
pub stops : (stop : PieceStop) (piece rest whole : List ℕ) (a b c : HostState) → SoFar (piece ++ rest) whole a b
    → StopsWriting stop piece b c → StopsWriting stop whole a c
stops Unwritten piece rest whole a b c so_far until = record {
  names = λ name. same_then (a.holds name) (b.holds name) (c.holds name) (so_far.wrote.names name) (until.names name);
  written = written_until piece rest whole a b c so_far until.written;
  cause = record { rose = rose_after a.faults b.faults c.faults (sym so_far.wrote.no_fault.faults) until.cause.rose; blame = until.cause.blame };
}
stops NoMemory piece rest whole a b c so_far until = record {
  names = λ name. same_then (a.holds name) (b.holds name) (c.holds name) (so_far.wrote.names name) (until.names name);
  written = written_until piece rest whole a b c so_far until.written;
  no_fault = no_fault_then a b c so_far.wrote.no_fault until.no_fault;
}

-- memory ran out where no piece was begun
pub lacks_rest : (rest whole : List ℕ) (a b : HostState) → SoFar rest whole a b → WroteUntilLack whole a b
lacks_rest rest whole a b so_far =
    let none = wrote_none b in
    stops NoMemory [] rest whole a b b so_far (record {
      names = none.names;
      written = none_prefix b.written b.written (same_refl b.written);
      no_fault = none.no_fault;
    })
