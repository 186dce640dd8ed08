-- What the functions of this crate answer, as the answers of calls.
use Rattle.std.specs.Prelude.{ℕ, List, cond, eqb, take, Some, None, Result, Ok, Err}
use Rattle.limits.specs.declared.Refusal.{Refusal}
use Rattle.limits.specs.Context.{Context}
use Rattle.input.specs.Input as input
use Rattle.numeric.specs.Reading.{Kind, Status, completed, halted}
use Rattle.numeric.specs.Reading as readings
use Rattle.numeric.specs.declared.Ended.{Ended}
use Rattle.numeric.specs.declared.Ended.TheVariants.{Completed, Stopped}
use Rattle.numeric.specs.Question as asks
use Rattle.numeric.specs.Step.{Answer, refused, reply, ran, shows}
use Rattle.replies.specs.declared.Reply.{Reply}
use Rattle.replies.specs.Reply.{told_by}
use Rattle.shown.specs.declared.BoundReply.{BoundReply}
use Rattle.shown.specs.declared.ValueReply.{ValueReply}
use Rattle.shown.specs.declared.KeyReply.{KeyReply}
use Rattle.shown.specs.declared.StatusReply.{StatusReply}
use Rattle.shown.specs.Shown.{bound_in, value_in, completing, stopping, unread}

-- the answer where there is one, else the refusal
abbrev pub answering : Answer → Reply → Answer
answering a r = cond (eqb r.code 0) a (refused (told_by r))

abbrev pub done : Reply → Answer
done r = answering (reply input.done) r

abbrev pub id : Reply → Answer
id r = answering (reply (input.id r.value)) r

abbrev pub run : Reply → Answer
run r = answering ran r

-- ---- readings

abbrev pub number : Reply → Answer
number r = answering (shows (asks.number r.value)) r

abbrev pub bound : BoundReply → Answer
bound r = answering (shows (asks.bound (bound_in r))) r.reply

abbrev pub value : ValueReply → Answer
value r = answering (shows (asks.value (value_in r))) r.bound.reply

abbrev pub kind_in : KeyReply → Kind
kind_in r = cond (eqb r.reply.value 1) (readings.number r.number) (cond (eqb r.reply.value 2) readings.name readings.large)

abbrev pub key : KeyReply → Answer
key r = answering (shows (asks.kind (kind_in r))) r.reply

-- the bytes of a name stand at the beginning of the lent ones
abbrev pub bytes : Reply → List ℕ → Answer
bytes r l = answering (shows (asks.bytes (take r.value l))) r

abbrev pub context_in : ℕ → ℕ → Context
context_in set c = cond (eqb set 0) None (Some c)

abbrev pub status_in : StatusReply → Status
status_in r = cond (eqb r.reply.value 0) completed (halted (told_by r.stop) (context_in r.set r.context))

abbrev pub status : StatusReply → Answer
status r = answering (shows (asks.ended (status_in r))) r.reply

-- ---- an ending as a struct

abbrev pub ended_reply : Result Ended Refusal → StatusReply
ended_reply (Ok Completed) = completing
ended_reply (Ok (Stopped s c)) = stopping s c
ended_reply (Err e) = unread e
