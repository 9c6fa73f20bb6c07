-- What a contract sees of `Replies`.
use Rattle.std.specs.Prelude.{ℕ, ◌==◌, if◌then◌else◌, List}
use Rattle.vs_flow.specs.declared.flow.Flow.{Flow}
use Rattle.vs_header.specs.{declared.Header.Header, declared.Kind.TheVariants.Stream, declared.Kind.TheVariants.Seqpacket}
use Rattle.vs_replies.specs.declared.Reply.{Reply}

-- the replies that are owed, the oldest first, and how many there may be
pub record OwedReplies : Type 0 where
  pub owed : List Reply
  pub capacity : ℕ

-- The reply to a packet of a flow: it has the packet's type, and that of streams where the packet's isn't known.
abbrev pub reply_to : Flow → Header → Reply
reply_to f packet = record { flow = f; kind = if packet.kind == 2 then Seqpacket else Stream }
