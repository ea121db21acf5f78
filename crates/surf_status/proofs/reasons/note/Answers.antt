use Rattle.std.proofs.Common.{sym, subst}
use Rattle.surf_status.specs.Notes.{note_of, Notes}
use Rattle.surf_status.specs.Writes.{writes}
use Rattle.surf_status.specs.declared.status.Status.{Status}
use Rattle.surf_status.proofs.reasons.note.Goals as goal

pub returns-in-Refused : goal.returns-in-Refused
returns-in-Refused g c = subst (λ (s : Status). Notes (writes g.N.Sink.written g.N.Sink.faults c.args.notes.now c.send_refusal.new.notes) (note_of s)) (sym c.in-Refused.is) c.send_refusal.ensures

pub returns-in-Usage : goal.returns-in-Usage
returns-in-Usage g c = subst (λ (s : Status). Notes (writes g.N.Sink.written g.N.Sink.faults c.args.notes.now c.send.new.notes) (note_of s)) (sym c.in-Usage.is) c.send.ensures

pub returns-in-NotEnabled : goal.returns-in-NotEnabled
returns-in-NotEnabled g c = subst (λ (s : Status). Notes (writes g.N.Sink.written g.N.Sink.faults c.args.notes.now c.send-in-NotEnabled.new.notes) (note_of s)) (sym c.in-NotEnabled.is) c.send-in-NotEnabled.ensures

pub returns-in-ReadFault : goal.returns-in-ReadFault
returns-in-ReadFault g c = subst (λ (s : Status). Notes (writes g.N.Sink.written g.N.Sink.faults c.args.notes.now c.send-in-ReadFault.new.notes) (note_of s)) (sym c.in-ReadFault.is) c.send-in-ReadFault.ensures

pub returns-in-WriteFault : goal.returns-in-WriteFault
returns-in-WriteFault g c = subst (λ (s : Status). Notes (writes g.N.Sink.written g.N.Sink.faults c.args.notes.now c.send-in-WriteFault.new.notes) (note_of s)) (sym c.in-WriteFault.is) c.send-in-WriteFault.ensures

pub returns-in-NoMemory : goal.returns-in-NoMemory
returns-in-NoMemory g c = subst (λ (s : Status). Notes (writes g.N.Sink.written g.N.Sink.faults c.args.notes.now c.send-in-NoMemory.new.notes) (note_of s)) (sym c.in-NoMemory.is) c.send-in-NoMemory.ensures

pub returns-in-TooLong : goal.returns-in-TooLong
returns-in-TooLong g c = subst (λ (s : Status). Notes (writes g.N.Sink.written g.N.Sink.faults c.args.notes.now c.send-in-TooLong.new.notes) (note_of s)) (sym c.in-TooLong.is) c.send-in-TooLong.ensures
