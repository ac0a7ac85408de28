-- All the definitions that a run computes with, opened at once: `unfolding all_open`.

unfoldable pub settings_open : Unit {0}
unfolding Rattle.settings.specs.Count.count Rattle.settings.specs.Count.common Rattle.settings.specs.Ranges.bricks_in_range
    Rattle.settings.specs.Ranges.size_in_range Rattle.settings.specs.Ranges.capacity_in_range Rattle.settings.specs.Ranges.stripes_in_range
    Rattle.settings.specs.Ranges.in_range Rattle.settings.specs.Ranges.settings_refusal Rattle.settings.specs.Ranges.code_refusal
    Rattle.settings.specs.Ranges.stripe_count_refusal Rattle.settings.specs.Ranges.stripe_refusal Rattle.settings.specs.Ranges.data_block_refusal
    Rattle.settings.specs.Ranges.faults
    Rattle.settings.specs.Ranges.quorum Rattle.settings.specs.Refusal.first_refusal Rattle.settings.specs.Times.max_count
    Rattle.settings.specs.Times.no_upper_end Rattle.settings.specs.Times.time_of Rattle.settings.specs.Times.valid_time
    Rattle.settings.specs.Times.next_count Rattle.settings.specs.Times.draw_refusal Rattle.settings.specs.Times.advanced
    Rattle.settings.specs.Times.draw_of Rattle.settings.specs.Times.number_of
settings_open = tt

unfoldable pub message_open : Unit {0}
unfolding Rattle.message.specs.Flags.member Rattle.message.specs.Flags.members Rattle.message.specs.Flags.flags_within
    Rattle.message.specs.Flags.brick_set Rattle.message.specs.Messages.round_right Rattle.message.specs.Messages.kind_right
    Rattle.message.specs.Messages.targets_right Rattle.message.specs.Messages.names_block Rattle.message.specs.Messages.message_block_refusal
    Rattle.message.specs.Messages.message_refusal Rattle.message.specs.Messages.found_right Rattle.message.specs.Messages.reply_right
    Rattle.message.specs.Messages.is_silent Rattle.message.specs.Messages.stores_entry Rattle.message.specs.Messages.compares Rattle.message.specs.Messages.comparison_right
    Rattle.message.specs.Messages.reply_refusal
message_open = tt

unfoldable pub little_open : Unit {0}
unfolding Rattle.byte_lists.specs.Little.byte_of Rattle.byte_lists.specs.Little.little Rattle.byte_lists.specs.Little.number
    Rattle.byte_lists.specs.Little.are_bytes
little_open = tt

unfoldable pub block_open : Unit {0}
unfolding Rattle.image_block.specs.Block.weighted Rattle.image_block.specs.Block.check_of Rattle.image_block.specs.Block.sealed
    Rattle.image_block.specs.Workers.unchecked Rattle.byte_lists.specs.Lists.same Rattle.image_block.specs.Block.checked
    Rattle.byte_lists.specs.Lists.zeros
    Rattle.image_block.specs.Block.head_body Rattle.image_block.specs.Block.head_block
    Rattle.image_block.specs.Block.slot_body Rattle.image_block.specs.Block.entry_body Rattle.image_block.specs.Block.entry_block
    Rattle.image_block.specs.Block.mark_body Rattle.image_block.specs.Block.mark_block Rattle.image_block.specs.Block.unused_body
    Rattle.image_block.specs.Block.unused_block Rattle.byte_lists.specs.Lists.put
block_open = tt

unfoldable pub image_open : Unit {0}
unfolding Rattle.image.specs.Brick.entry_count Rattle.image.specs.Brick.no_entry Rattle.image.specs.Brick.time_at Rattle.image.specs.Brick.means_at
    Rattle.image.specs.Brick.mark_at Rattle.image.specs.Brick.mark_sound
    Rattle.image.specs.Brick.newest Rattle.image.specs.Brick.fresh_brick Rattle.image.specs.Brick.saved_time Rattle.image.specs.Brick.rises_at
    Rattle.image.specs.Brick.entry_sound Rattle.image.specs.Brick.count_sound Rattle.image.specs.Brick.sound_brick Rattle.image.specs.Image.slot_block
    Rattle.image.specs.Image.image_block
    Rattle.image.specs.Image.image_of Rattle.image.specs.Image.image_size Rattle.image.specs.Parse.image_block_at Rattle.image.specs.Parse.count_in
    Rattle.image.specs.Parse.promise_in Rattle.image.specs.Parse.time_in Rattle.image.specs.Parse.held_in Rattle.image.specs.Parse.mark_in
    Rattle.image.specs.Parse.holder_in Rattle.image.specs.Parse.entry_in
    Rattle.image.specs.Parse.entries_in Rattle.image.specs.Parse.brick_in Rattle.image.specs.Parse.checked_at Rattle.image.specs.Parse.is_image
    Rattle.image.specs.Parse.open_refusal Rattle.image.specs.Parse.parse
image_open = tt

unfoldable pub saving_open : Unit {0}
unfolding Rattle.image_write.specs.Saving.fresh_after Rattle.image_write.specs.Saving.with_promise Rattle.image_write.specs.Saving.appended
    Rattle.image_write.specs.Saving.block_entry Rattle.image_write.specs.Saving.mark_entry Rattle.image_write.specs.Saving.lowest_held
    Rattle.image_write.specs.Workers.held_if Rattle.image_write.specs.Workers.removed
saving_open = tt

unfoldable pub brick_open : Unit {0}
unfolding Rattle.brick.specs.Receive.beside_right Rattle.brick.specs.Receive.front_refusal Rattle.brick.specs.Receive.receive_refusal
    Rattle.brick.specs.Receive.refused_with
    Rattle.brick.specs.Receive.given_by Rattle.brick.specs.Receive.accepted Rattle.brick.specs.Receive.outcome
    Rattle.brick_answer.specs.Comparisons.above_newest Rattle.brick_answer.specs.Comparisons.not_below_promise Rattle.brick_answer.specs.Comparisons.has_free
    Rattle.brick_answer.specs.Comparisons.newer_says_no Rattle.brick_answer.specs.Comparisons.promise_says_no
    Rattle.brick_answer.specs.Comparisons.full_says_no Rattle.brick_answer.specs.Comparisons.none_says_no Rattle.brick_answer.specs.Comparisons.first_no
    Rattle.brick_log.specs.BrickRules.read_yes Rattle.brick_log.specs.BrickRules.order_yes Rattle.brick_log.specs.BrickRules.write_yes
    Rattle.brick_log.specs.BrickRules.modify_yes Rattle.brick_log.specs.BrickRules.newest_block Rattle.brick_log.specs.BrickRules.modified_entry
    Rattle.brick_log.specs.BrickRules.modified_if_yes Rattle.brick_log.specs.BrickRules.ordered_if_yes Rattle.brick_log.specs.BrickRules.written_if_yes
    Rattle.brick_log.specs.BrickRules.trimmed Rattle.brick_log.specs.BrickRules.dropped Rattle.brick_log.specs.BrickRules.dropped_from
    Rattle.brick_log.specs.BrickRules.trimmed_to Rattle.brick_log.specs.BrickRules.under Rattle.brick_log.specs.BrickRules.lookup
    Rattle.brick_log.specs.BrickRules.place_for Rattle.brick_log.specs.BrickRules.time_for Rattle.brick_log.specs.BrickRules.found_for
    Rattle.brick_log.specs.BrickRules.yes_to Rattle.brick_log.specs.BrickRules.comparison_to Rattle.brick_log.specs.BrickRules.reply_to Rattle.brick_log.specs.BrickRules.brick_after
    Rattle.brick_log.specs.BrickRules.block_after
brick_open = tt

unfoldable pub volume_open : Unit {0}
unfolding Rattle.volume.specs.Rows.row_size Rattle.volume.specs.Rows.image_at Rattle.volume.specs.Rows.with_image Rattle.volume.specs.Rows.fresh_row
    Rattle.volume.specs.Rows.row_lending_refusal Rattle.volume.specs.Rows.fresh_row_after Rattle.volume.specs.Rows.in_row
    Rattle.volume.specs.Rows.row_refusal Rattle.volume.specs.Rows.row_outcome
volume_open = tt

unfoldable pub gf256_open : Unit {0}
unfolding Rattle.gf256.specs.Product.plus Rattle.gf256.specs.Product.twice Rattle.gf256.specs.Product.shift_add Rattle.gf256.specs.Product.product
    Rattle.gf256.specs.Product.doubled Rattle.gf256.specs.Product.power Rattle.gf256.specs.Product.inverse_below Rattle.gf256.specs.Product.inverse
    Rattle.gf256.specs.Product.quotient
gf256_open = tt

unfoldable pub poly_open : Unit {0}
unfolding Rattle.poly.specs.Polynomial.pick Rattle.poly.specs.Polynomial.sub Rattle.poly.specs.Polynomial.eval Rattle.poly.specs.Polynomial.Different
    Rattle.poly.specs.Polynomial.sum Rattle.poly.specs.Polynomial.factor Rattle.poly.specs.Polynomial.basis_to Rattle.poly.specs.Polynomial.basis
    Rattle.poly.specs.Polynomial.interpolated
poly_open = tt

unfoldable pub interpolate_open : Unit {0}
unfolding Rattle.byte_lists.specs.Lists.tabulate Rattle.byte_lists.specs.Lists.stacked Rattle.interpolate.specs.Values.byte_at
    Rattle.interpolate.specs.Values.value_at Rattle.interpolate.specs.Values.block_at Rattle.interpolate.specs.Values.blocks_at
interpolate_open = tt

unfoldable pub erasure_open : Unit {0}
unfolding Rattle.erasure.specs.Code.first_points Rattle.erasure.specs.Code.coded_of Rattle.erasure.specs.Code.decoded_of
    Rattle.erasure.specs.Code.agree Rattle.erasure.specs.Code.blocks_of
    Rattle.erasure.specs.Code.block_of Rattle.erasure.specs.Code.with_block Rattle.erasure.specs.Recoding.unit_stripe
    Rattle.erasure.specs.Recoding.weight_at Rattle.erasure.specs.Recoding.with_change Rattle.erasure.specs.Recoding.recoded_block
erasure_open = tt

unfoldable pub coord_record_open : Unit {0}
unfolding Rattle.byte_lists.specs.Each.each Rattle.byte_lists.specs.Each.some Rattle.coord_record.specs.Records.no_op
    Rattle.coord_record.specs.Records.no_bricks Rattle.coord_record.specs.Records.nothing_counted Rattle.coord_record.specs.Records.geometry_of
    Rattle.coord_record.specs.Records.idle_with Rattle.coord_record.specs.Records.is_reading Rattle.coord_record.specs.Records.on_block
    Rattle.coord_record.specs.Records.target_count
    Rattle.coord_record.specs.CountedRules.steps_above Rattle.coord_record.specs.CountedRules.is_target
    Rattle.coord_record.specs.CountedRules.block_right Rattle.coord_record.specs.CountedRules.counted_right
    Rattle.coord_record.specs.CountedRules.entry_right Rattle.coord_record.specs.CountedRules.said_right Rattle.coord_record.specs.CountedRules.kept_right
    Rattle.coord_record.specs.CountedRules.tally_right
    Rattle.coord_record.specs.CountedRules.brick_right Rattle.coord_record.specs.CountedRules.bricks_right Rattle.coord_record.specs.Sound.max_right
    Rattle.coord_record.specs.Sound.stored_right Rattle.coord_record.specs.Sound.recovery_right Rattle.coord_record.specs.Sound.opening_right
    Rattle.coord_record.specs.Sound.block_write_right Rattle.coord_record.specs.Sound.block_low Rattle.coord_record.specs.Sound.read_right
    Rattle.coord_record.specs.Sound.write_right
    Rattle.coord_record.specs.Sound.unset_op Rattle.coord_record.specs.Sound.op_right Rattle.coord_record.specs.Sound.time_right
    Rattle.coord_record.specs.Sound.named_count Rattle.coord_record.specs.Sound.filled_right Rattle.coord_record.specs.Sound.rules_kept
    Rattle.coord_record.specs.Sound.same_geometry Rattle.coord_record.specs.Sound.sound_record
coord_record_open = tt

unfoldable pub coord_rounds_open : Unit {0}
unfolding Rattle.coord_tally.specs.Counting.said_no Rattle.coord_tally.specs.Counting.highest Rattle.coord_tally.specs.Counting.other_time
    Rattle.coord_tally.specs.Counting.missing Rattle.coord_tally.specs.Counting.at_time Rattle.coord_tally.specs.Counting.at_times
    Rattle.coord_tally.specs.Counting.passing Rattle.coord_tally.specs.Counting.in_row Rattle.coord_tally.specs.Counting.picked
    Rattle.coord_tally.specs.Counting.upward Rattle.coord_tally.specs.Counting.target_row Rattle.coord_tally.specs.Counting.target_flag
    Rattle.coord_tally.specs.Counting.target_flags Rattle.coord_decide.specs.Deciding.answers Rattle.coord_decide.specs.Deciding.tallied
    Rattle.coord_decide.specs.Deciding.apart Rattle.coord_decide.specs.Deciding.decided_block_order Rattle.coord_decide.specs.Deciding.decided_read
    Rattle.coord_decide.specs.Deciding.unless_spent Rattle.coord_decide.specs.Deciding.decided_at
    Rattle.coord_decide.specs.Deciding.decided_recovery Rattle.coord_decide.specs.Deciding.decided
coord_rounds_open = tt

unfoldable pub coord_acts_open : Unit {0}
unfolding Rattle.coord_letters.specs.Letters.read_letter Rattle.coord_letters.specs.Letters.said_other Rattle.coord_letters.specs.Letters.abort_letter
    Rattle.coord_apply.specs.Answers.letter_of Rattle.coord_blocks.specs.Blocks.agreeing Rattle.coord_blocks.specs.Blocks.stripe_from Rattle.coord_apply.specs.Acts.round_message
    Rattle.coord_apply.specs.Acts.clear_message Rattle.coord_apply.specs.Acts.clearing Rattle.coord_apply.specs.Acts.all_hold Rattle.coord_apply.specs.Acts.drops_first
    Rattle.coord_apply.specs.Acts.trims_first Rattle.coord_apply.specs.Acts.sending_first Rattle.coord_apply.specs.Acts.next_op Rattle.coord_apply.specs.Acts.opened
    Rattle.coord_apply.specs.Acts.next_round Rattle.coord_apply.specs.Acts.ending Rattle.coord_apply.specs.Acts.finished_seen
    Rattle.coord_apply.specs.Acts.modifying Rattle.coord_apply.specs.Acts.seen_block Rattle.coord_blocks.specs.Blocks.given_stripe
    Rattle.coord_blocks.specs.Blocks.stored_stripe Rattle.coord_apply.specs.Acts.named_bricks
    Rattle.coord_apply.specs.Acts.acted Rattle.coord_apply.specs.Acts.with_tally
    Rattle.coord_apply.specs.Acts.counting Rattle.coord_apply.specs.Acts.waiting_or Rattle.coord_apply.specs.Acts.first_op
    Rattle.coord_apply.specs.Acts.starting Rattle.coord_apply.specs.Answers.after_checks Rattle.coord_apply.specs.Answers.nothing_seen
    Rattle.coord_apply.specs.Answers.no_message Rattle.coord_apply.specs.Answers.sent_count Rattle.coord_apply.specs.Answers.sent_message
    Rattle.coord_apply.specs.Answers.sent_blocks Rattle.coord_apply.specs.Answers.answer_of Rattle.coord_apply.specs.Answers.blocks_after
    Rattle.coord_apply.specs.Answers.stripe_after Rattle.coord_apply.specs.Answers.coded_after Rattle.coord_apply.proofs.Laws.AnswerLaws.after
coord_acts_open = tt

unfoldable pub coordinator_open : Unit {0}
unfolding Rattle.coord_refusals.specs.Checks.record_checks Rattle.coord_refusals.specs.Checks.stripe_checks Rattle.coord_refusals.specs.Checks.write_checks
    Rattle.coord_refusals.specs.Checks.read_checks Rattle.coord_refusals.specs.Checks.block_checks Rattle.coord_refusals.specs.Checks.write_block_checks
    Rattle.coord_refusals.specs.Checks.read_block_checks Rattle.coord_refusals.specs.Checks.write_block_refusal
    Rattle.coord_refusals.specs.Checks.read_block_refusal Rattle.coord_refusals.specs.Checks.start_checks
    Rattle.coord_refusals.specs.Checks.write_refusal Rattle.coord_refusals.specs.Checks.read_refusal Rattle.coord_refusals.specs.Checks.lengths_right
    Rattle.coord_refusals.specs.Checks.stray_checks Rattle.coord_refusals.specs.Checks.take_refusal Rattle.coord_refusals.specs.Checks.crash_refusal
    Rattle.coordinator.specs.Routines.take_step Rattle.coordinator.specs.Routines.crashed Rattle.coordinator.specs.Routines.crash_step
    Rattle.coordinator.specs.Routines.drawn_then Rattle.coordinator.specs.Routines.write_step Rattle.coordinator.specs.Routines.read_step
    Rattle.coordinator.specs.Routines.write_block_step Rattle.coordinator.specs.Routines.read_block_step
coordinator_open = tt

unfoldable pub register_open : Unit {0}
unfolding Rattle.register.specs.Runs.zero_stripe Rattle.register.specs.Runs.idle Rattle.register.specs.Runs.fresh_set
    Rattle.register.specs.Runs.unmoved Rattle.register.specs.Runs.put_at Rattle.register.specs.Runs.on_stripe
    Rattle.register.specs.Runs.begun_kind Rattle.register.specs.Runs.read_given Rattle.register.specs.Runs.seen_of
    Rattle.register.specs.Runs.block_for Rattle.register.specs.Runs.old_for Rattle.register.specs.Runs.to_all
    Rattle.register.specs.Runs.broadcasts
    Rattle.register.specs.Runs.coordinated Rattle.register.specs.Runs.replied_with Rattle.register.specs.Runs.received
    Rattle.register.specs.Runs.arriving Rattle.register.specs.Runs.arriving_at Rattle.register.specs.Runs.standing
    Rattle.register.specs.Runs.buffers_fit Rattle.register.specs.Runs.leaving Rattle.register.specs.Runs.left_by
    Rattle.register.specs.Runs.step Rattle.register.specs.Runs.next_moved Rattle.register.specs.Runs.run_from
    Rattle.register.specs.Runs.run
register_open = tt

unfoldable pub all_open : Unit {0}
unfolding settings_open message_open little_open block_open image_open saving_open brick_open volume_open gf256_open poly_open interpolate_open
    erasure_open
    coord_record_open coord_rounds_open coord_acts_open coordinator_open register_open
all_open = tt
