-- A session that reads its input in another coding has taken what it had.
use Rattle.std.proofs.Common.{ℕ, List, inl, inr}
use Rattle.dsp_ports.specs.Ports.{SourceState, SinkState}
use Rattle.dsp_defs.specs.Block.{Frame}
use Rattle.dsp_defs.specs.Counts.{Counts}
use Rattle.dsp_defs.specs.declared.format.Coding.{Coding}
use Rattle.dsp_defs.specs.declared.measure.Measure.{Measure}
use Rattle.dsp_defs.specs.declared.script.Script.{Script}
use Rattle.dsp_session.specs.SessionState.{SessionState}
use Rattle.dsp_session.specs.Session.{Holds, StandsFor}
use Rattle.dsp_session.specs.Resuming.{LaterLagsByOne, RestDone, RestStopped}
use Rattle.dsp_session.specs.declared.fault.PartFault.{PartFault}

module _ (s : SessionState) (coding : Coding) where
  abbrev coded : SessionState
  coded = record s { coding = coding }

  holds_coded : Holds s → Holds coded
  holds_coded holds = record { ready = holds.ready; input = holds.input; blocks = holds.blocks; turns = holds.turns }

  stands_coded : (x : List Frame) → StandsFor s x → StandsFor coded x
  stands_coded x stands = record { holds = holds_coded stands.holds; chain = stands.chain; live = stands.live }

  lag_coded : (script : Script) (block from : ℕ) (given written : List ℕ) →
      LaterLagsByOne script block coded from given written → LaterLagsByOne script block s from given written
  lag_coded script block from given written lag = record {
    blocks = lag.blocks;
    wrote = elim lag.wrote [
      | inl none ↦ inl none
      | inr some ↦ inr
          (some.0, λ x stands. some.1 x (stands_coded x stands))
    ];
    one = lag.one;
  }

  module _ (script : Script) (from : ℕ) (input now : SourceState) (sink after : SinkState) (before counts : Counts)
    where
      pub rest_done_coded : (frames : ℕ) (found : List Measure) →
          RestDone script coded from frames input now sink after before counts found →
          RestDone script s from frames input now sink after before counts found
      rest_done_coded frames found done = record {
        given = done.given;
        written = done.written;
        gave = done.gave;
        has = done.has;
        in_limit = done.in_limit;
        room_left = done.room_left;
        whole = done.whole;
        frame_count = done.frame_count;
        enough = done.enough;
        limits = done.limits;
        no_window = done.no_window;
        put = done.put;
        lag = lag_coded script s.block from done.given done.written done.lag;
        output = λ x stands. done.output x (stands_coded x stands);
        settled = done.settled;
        no_input_fault = done.no_input_fault;
        no_output_fault = done.no_output_fault;
        cost = done.cost;
        turns = done.turns;
        exact = λ x stands. done.exact x (stands_coded x stands);
        measures = λ x stands. done.measures x (stands_coded x stands);
      }

      pub rest_stopped_coded : (block : ℕ) (stop : PartFault) →
          RestStopped script block coded from stop input now sink after before counts →
          RestStopped script block s from stop input now sink after before counts
      rest_stopped_coded block stop stopped = record {
        given = stopped.given;
        written = stopped.written;
        gave = stopped.gave;
        in_limit = stopped.in_limit;
        put = stopped.put;
        unflushed = stopped.unflushed;
        cause = stopped.cause;
        idle = stopped.idle;
        wrote = λ x stands. stopped.wrote x (stands_coded x stands);
        lag = λ has. lag_coded script block from stopped.given stopped.written (stopped.lag has);
        faults = stopped.faults;
        cost = stopped.cost;
        turns = stopped.turns;
      }
