-- A read of the part that no samples end is a read of all samples, and a cause may be named in another way.
use Rattle.std.proofs.Common.{ℕ, ◌-◌, ◌^◌, List, length, ◌+◌, inl, inr, arith}
use Rattle.dsp_ports.specs.Ports.{SourceState}
use Rattle.dsp_wave.specs.declared.samples.Stored.{Stored}
use Rattle.dsp_wave.specs.Samples.{BlockRead, PartRead, PartUnread, Unread}

pub whole_read : (stored : Stored) (taken : ℕ) (block : List ℕ) (count : ℕ) (input now : SourceState)
    → PartRead stored (2 ^ 64 - 1) taken block count input now → BlockRead stored taken block count input now
whole_read stored taken block count input now read = record {
  within = read.within;
  gave = read.gave;
  declared = read.declared;
  in_limit = read.in_limit;
  room_left = λ short none. read.room_left short none (omega (arith, read.in_limit));
  end = λ short. elim (read.ended short) [ inl is ↦ absurd (omega (arith, is, read.in_limit)) | inr all ↦ all ];
  no_fault = read.no_fault;
  going = λ full. read.going (λ short. absurd (omega (arith, full, short)));
}

pub other_cause : (stored : Stored) (taken size : ℕ) (Cause Other : ℕ → Type 0) (input now : SourceState)
    → ((n : ℕ) → Cause n → Other n) → Unread stored taken size Cause input now →
    Unread stored taken size Other input now
other_cause stored taken size Cause Other input now names unread = record {
  bytes = unread.bytes;
  gave = unread.gave;
  short = unread.short;
  in_limit = unread.in_limit;
  declared = unread.declared;
  cause = names (taken + length unread.bytes) unread.cause;
}

pub part_cause : (stored : Stored) (end taken size : ℕ) (Cause Other : ℕ → Type 0) (input now : SourceState)
    → ((n : ℕ) → Cause n → Other n) → PartUnread stored end taken size Cause input now →
    PartUnread stored end taken size Other input now
unfolding other_cause
part_cause stored end taken size Cause Other input now names part = record {
  unread = other_cause stored taken size Cause Other input now names part.unread;
  in_part = part.in_part;
}
